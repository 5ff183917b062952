-- A table after a write to one of its records.
use Rattle.std.proofs.Common.{◌≡◌, ℕ, true, false, List, length, set, Some, None, Ok, Err, count_by, sym, refl, ◌∙◌, subst}
use Rattle.std.proofs.lemmas.Bool.{both_ways}
use Rattle.terms.specs.declared.cell.Cell.{Cell}
use Rattle.stores.specs.declared.entry.Entry.{Entry}
use Rattle.stores.specs.Table.{Record}
use Rattle.stores.specs.declared.fault.StoreFault.TheVariants.{Full}
use Rattle.stores.specs.Means.{count_of, row_of, Put, Dropped}
use Rattle.stores.specs.Places.{taken, held, rows_in, look, Apart, NoHit, AtHit, AtFree}
use Rattle.stores.specs.Table.{place_of, holding_of, contents}
use Rattle.stores.proofs.Writes.{PutList, DropList, hit_apart, put_hit, drop_hit, drop_none, put_full, free_apart, put_free}
use Rattle.stores.proofs.Puts.{put_means, drop_means}
use Rattle.std.proofs.lemmas.List.{length-map, map-set}

module _ (rs : List Record) (apart : Apart (held (contents rs))) where
  still_apart : (k : ℕ) (r : Record) → Apart (held (set (contents rs) k (place_of r))) → Apart (held (contents (set rs k r)))
  still_apart k r a = subst (λ ps. Apart (held ps)) (sym (map-set place_of rs k r)) a

  put_at : (k : ℕ) (r : Record) (q : List Cell) (n : ℕ) → PutList (held (contents rs)) (held (set (contents rs) k (place_of r))) (length (contents rs)) q n (Ok tt)
      → Put (look (held (contents rs))) (look (held (contents (set rs k r)))) (length (rows_in (held (contents rs)))) (length rs) q n (Ok tt)
  put_at k r q n p =
      put_means (held (contents rs)) (held (contents (set rs k r))) (length rs) q n (Ok tt)
      (subst (λ m. PutList (held (contents rs)) (held (contents (set rs k r))) m q n (Ok tt)) (length-map rs place_of)
      (subst (λ ps. PutList (held (contents rs)) (held ps) (length (contents rs)) q n (Ok tt)) (sym (map-set place_of rs k r)) p))

  module _ (e : Entry) where
    module _ (k : ℕ) (at : AtHit (contents rs) (row_of e) k) where
      pub replace_apart : Apart (held (contents (set rs k (Some e))))
      replace_apart = still_apart k (Some e) (hit_apart (contents rs) (row_of e) k at apart None (Some (holding_of e)) (λ _. refl))

      pub replace_put : Put (look (held (contents rs))) (look (held (contents (set rs k (Some e))))) (length (rows_in (held (contents rs)))) (length rs) (row_of e) (count_of e.count) (Ok tt)
      replace_put = put_at k (Some e) (row_of e) (count_of e.count) (put_hit (contents rs) (row_of e) k at apart None (Some (holding_of e)) (λ _. refl) refl refl tt)

    module _ (none : NoHit (contents rs) (row_of e) (length rs)) where
      none' : NoHit (contents rs) (row_of e) (length (contents rs))
      none' = subst (λ m. NoHit (contents rs) (row_of e) m) (sym (length-map rs place_of)) none

      pub full_put : count_by taken (contents rs) ≡ length rs → Put (look (held (contents rs))) (look (held (contents rs))) (length (rows_in (held (contents rs)))) (length rs) (row_of e) (count_of e.count) (Err Full)
      full_put all =
          put_means (held (contents rs)) (held (contents rs)) (length rs) (row_of e) (count_of e.count) (Err Full)
          (subst (λ m. PutList (held (contents rs)) (held (contents rs)) m (row_of e) (count_of e.count) (Err Full)) (length-map rs place_of)
          (put_full (contents rs) (row_of e) none' (all ∙ sym (length-map rs place_of)) (count_of e.count)))

      module _ (k : ℕ) (at : AtFree (contents rs) k) where
        pub add_apart : Apart (held (contents (set rs k (Some e))))
        add_apart = still_apart k (Some e) (free_apart (contents rs) (row_of e) none' k at None (Some (holding_of e)) refl refl apart)

        pub add_put : Put (look (held (contents rs))) (look (held (contents (set rs k (Some e))))) (length (rows_in (held (contents rs)))) (length rs) (row_of e) (count_of e.count) (Ok tt)
        add_put = put_at k (Some e) (row_of e) (count_of e.count) (put_free (contents rs) (row_of e) none' k at None (Some (holding_of e)) refl refl tt)

  module _ (q : List Cell) where
    module _ (k : ℕ) (at : AtHit (contents rs) q k) where
      pub drop_apart : Apart (held (contents (set rs k None)))
      drop_apart = still_apart k None (hit_apart (contents rs) q k at apart None None (λ t. absurd (both_ways false refl t)))

      pub dropped : Dropped (look (held (contents rs))) (look (held (contents (set rs k None)))) q true
      dropped =
          drop_means (held (contents rs)) (held (contents (set rs k None))) q true
          (subst (λ ps. DropList (held (contents rs)) (held ps) q true) (sym (map-set place_of rs k None))
          (drop_hit (contents rs) q k at apart None None (λ t. absurd (both_ways false refl t)) refl))

    pub not_dropped : NoHit (contents rs) q (length rs) → Dropped (look (held (contents rs))) (look (held (contents rs))) q false
    not_dropped none =
        drop_means (held (contents rs)) (held (contents rs)) q false
        (drop_none (contents rs) q (subst (λ m. NoHit (contents rs) q m) (sym (length-map rs place_of)) none))
