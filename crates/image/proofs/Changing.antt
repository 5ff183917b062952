-- An image after a write to one line.
use Rattle.std.proofs.Common.{◌≡◌, ℕ, ◌*◌, ◌/◌, ◌<◌, ◌≤◌, true, false, List, length, get_or, take, drop, set, Some, None, Ok, Err, count_by, Option, Result, Bool, sym, refl, ap, ◌∙◌, subst, inl, inr, ⊎_elim, arith, MatchOption, ◌⊎◌}
use borrow.Rule.Slice.PartMut.{put_mid}
use Rattle.std.proofs.lemmas.Bool.{cases_eq, cases_Bool, both_ways}
use Rattle.terms.specs.declared.cell.Cell.{Cell}
use Rattle.columns.proofs.Numbers.{columns_same}
use Rattle.stores.specs.declared.fault.StoreFault.{StoreFault}
use Rattle.stores.specs.declared.fault.StoreFault.TheVariants.{Full}
use Rattle.std.specs.Option.{option_map}
use Rattle.stores.specs.declared.count.Count.{Count}
use Rattle.stores.specs.Means.{Put, Dropped, count_of}
use Rattle.stores.specs.Places.{Place, count_at, taken, hits, held, rows_in, look, Apart, NoHit, AtFree}
use Rattle.terms.specs.Rows.{Storable}
use Rattle.stores.proofs.Writes.{PutList, DropList, hit_find, hit_apart, put_hit, drop_hit, drop_none, put_full, free_apart, put_free}
use Rattle.stores.proofs.Puts.{put_means, drop_means}
use Rattle.image.specs.Lines.{slots, shown, blank_line}
use Rattle.image.specs.declared.image.Image.{Image}
use Rattle.image.specs.Tested.{sound_tested}
use Rattle.image.specs.Texts.{Proper, text}
use Rattle.image.specs.Meaning.{line, lines_in, meaning, entries, Shows, Sound, NoKey, AtKey, FirstFree}
use Rattle.image.specs.Change.{OnlyLine, AtRow, NoRow, PutLines, DropLines}
use Rattle.image.proofs.Decoding.{CountRead, text_front, text_length, tail_in}
use Rattle.image.proofs.Parts.{only_line}
use Rattle.image.proofs.Meanings.{hits_from, front_from, entries_length, entries_at, entries_set, shows_from, meaning_from, fit_tail, idle}

-- the image after a put and after a drop: its lines, its map, and that it is still an image
pub record Written (xs ys : List ℕ) (q : List Cell) (n : ℕ) (r : Result (Unit {0}) StoreFault) : Type 0 where
  pub lines : PutLines xs ys q n r
  pub sound : Sound Storable ys
  pub put : Put (look (held (entries xs))) (look (held (entries ys))) (length (rows_in (held (entries xs)))) (lines_in xs) q n r
  pub long : length ys ≡ length xs

pub record Removed (xs ys : List ℕ) (q : List Cell) (r : Bool) : Type 0 where
  pub lines : DropLines xs ys q r
  pub sound : Sound Storable ys
  pub dropped : Dropped (look (held (entries xs))) (look (held (entries ys))) q r
  pub long : length ys ≡ length xs

-- the image says of its bytes that they are sound
pub sound_image : (t : Image) → Sound Storable t.lines.bytes.now
sound_image t = sound_tested t.lines.bytes.now t.whole t.some t.few t.shown t.apart

pub row_front : (cs : List Cell) (s : List ℕ) → Storable cs → s ≡ shown cs 0 → take 120 s ≡ slots 12 cs
row_front cs s f e = ap (take 120) e ∙ text_front Storable idle (Some (cs, 0)) (f, omega arith) 12 (omega arith)

-- the line that was found is the row's
module _ (xs : List ℕ) (sound : Sound Storable xs) (cs : List Cell) (fit : Storable cs) (front : List ℕ) (is : front ≡ slots 12 cs) where
  at_line : (k : ℕ) (d : Place) → k < lines_in xs → hits (get_or (entries xs) k d) cs ≡ hits (meaning (line k xs)) cs
  at_line k d h = ap (λ o. hits o cs) (entries_at xs k d h)

  pub placed : (o : Option ℕ) → MatchOption o (NoKey xs front (lines_in xs)) (λ k. AtKey xs front (lines_in xs) k) → MatchOption o (NoHit (entries xs) cs (length (entries xs))) (λ k. AtRow xs cs k)
  placed None none = λ j d h₀.
      let l = entries_length xs in
      let h : j < lines_in xs = omega arith in
      at_line j d h ∙ ⊎_elim (λ t. absurd (none j h (front_from Storable idle (line j xs) (sound.shows j h) cs t ∙ sym is))) (λ f. f) (cases_Bool (hits (meaning (line j xs)) cs))
  placed (Some k) at =
      let l = entries_length xs in
      let w = at.within in
      record {
        within = w;
        hit = record { within = omega arith; here = λ d. at_line k d w ∙ hits_from Storable idle (line k xs) (sound.shows k w) cs fit (at.here ∙ is) };
      }

-- the count that is read of the row's line
pub count_found : (xs : List ℕ) → Sound Storable xs → (cs : List Cell) (k : ℕ) → AtRow xs cs k → (s : List ℕ) → s ≡ line k xs → (r : Option Count) → CountRead (take 7 (drop 120 s)) r → option_map count_of r ≡ look (held (entries xs)) cs
count_found xs sound cs k at s is r read =
    let w = at.within in
    let sh = sound.shows k w in
    let m = entries_at xs k None w in
    go (meaning (line k xs)) sh.good (sym (ap (λ p. hits p cs) m) ∙ at.hit.here None) (ap (λ t. take 7 (drop 120 t)) is ∙ fit_tail (line k xs) sh) r read
    ∙ sym (hit_find (entries xs) cs k at.hit sound.apart None ∙ ap (λ p. Some (count_at p)) m)
  where
    go : (p : Place) → Proper Storable p → hits p cs ≡ true → take 7 (drop 120 s) ≡ tail_in p → (r : Option Count) → CountRead (take 7 (drop 120 s)) r → option_map count_of r ≡ Some (count_at p)
    go None q h t r read = absurd (both_ways false refl h)
    go (Some x) q h t None read = absurd (read x.1 q.1 t)
    go (Some x) q h t (Some c) read =
        let few = q.1 in
        let f = c.few in
        ap Some (columns_same 7 c.value x.1 (omega arith) (omega arith) (sym read ∙ t))

-- one line is written
module _ (xs ys : List ℕ) (sound : Sound Storable xs) (k : ℕ) (within : k < lines_in xs) (e : Place) (p : Proper Storable e) (only : OnlyLine k (text e) xs ys) where
  pub entries_are : entries ys ≡ set (entries xs) k e
  entries_are = entries_set xs ys k e within only.long (ap meaning only.here ∙ meaning_from Storable idle (text e) e p refl) only.others

  pub still : Apart (held (set (entries xs) k e)) → Sound Storable ys
  still a =
      let l = only.long in
      let q : lines_in ys ≡ lines_in xs = ap (λ n. n / 128) l in
      let w = sound.whole in
      let a₀ = sound.allowed in
      record {
        whole = omega arith;
        allowed = (omega arith, omega arith);
        shows = λ j h. ⊎_elim
            (λ same_line. subst (λ i. Shows Storable (line i ys)) (sym same_line) (shows_from Storable idle (line k ys) e p only.here))
            (λ other. subst (Shows Storable) (sym (only.others j other)) (sound.shows j (omega arith)))
            (cases_eq j k);
        apart = subst (λ rs. Apart (held rs)) (sym entries_are) a;
      }

-- what holds of the places holds of the map
module _ (xs ys : List ℕ) where
  as_put : (ps : List Place) (q : List Cell) (n : ℕ) → entries ys ≡ ps → PutList (held (entries xs)) (held ps) (length (entries xs)) q n (Ok tt)
      → Put (look (held (entries xs))) (look (held (entries ys))) (length (rows_in (held (entries xs)))) (lines_in xs) q n (Ok tt)
  as_put ps q n e p =
      put_means (held (entries xs)) (held (entries ys)) (lines_in xs) q n (Ok tt)
      (subst (λ m. PutList (held (entries xs)) (held (entries ys)) m q n (Ok tt)) (entries_length xs)
      (subst (λ rs. PutList (held (entries xs)) (held rs) (length (entries xs)) q n (Ok tt)) (sym e) p))

module _ (xs ys : List ℕ) (sound : Sound Storable xs) (q : List Cell) (k : ℕ) where
  module _ (fit : Storable q) (n : ℕ) (small : n ≤ 999999) (only : OnlyLine k (shown q n) xs ys) where
    put_at : AtRow xs q k → Written xs ys q n (Ok tt)
    put_at at =
        let es = entries xs in
        record {
          lines = record { at = k; target = inl at; only = only };
          sound = still xs ys sound k at.within (Some (q, n)) (fit, small) only (hit_apart es q k at.hit sound.apart None (Some (q, n)) (λ _. refl));
          put = as_put xs ys _ q n (entries_are xs ys sound k at.within (Some (q, n)) (fit, small) only)
              (put_hit es q k at.hit sound.apart None (Some (q, n)) (λ _. refl) refl refl tt);
          long = only.long;
        }

    put_new : NoRow xs q → FirstFree xs k → Written xs ys q n (Ok tt)
    put_new none first =
        let es = entries xs in
        let l = entries_length xs in
        let w = first.within in
        let free : AtFree es k = record { within = omega arith; here = λ d. ap taken (entries_at xs k d w) ∙ first.here } in
        record {
          lines = record { at = k; target = inr (none, first); only = only };
          sound = still xs ys sound k w (Some (q, n)) (fit, small) only (free_apart es q none k free None (Some (q, n)) refl refl sound.apart);
          put = as_put xs ys _ q n (entries_are xs ys sound k w (Some (q, n)) (fit, small) only) (put_free es q none k free None (Some (q, n)) refl refl tt);
          long = only.long;
        }

    put_to : (AtRow xs q k ⊎ (NoRow xs q × FirstFree xs k)) → Written xs ys q n (Ok tt)
    put_to t = ⊎_elim put_at (λ f. put_new f.0 f.1) t

  drop_at_row : OnlyLine k blank_line xs ys → AtRow xs q k → Removed xs ys q true
  drop_at_row only at =
      let es = entries xs in
      record {
        lines = record { at = k; target = at; only = only };
        sound = still xs ys sound k at.within None tt only (hit_apart es q k at.hit sound.apart None None (λ t. absurd (both_ways false refl t)));
        dropped = drop_means (held es) (held (entries ys)) q true
            (subst (λ rs. DropList (held es) (held rs) q true) (sym (entries_are xs ys sound k at.within None tt only))
            (drop_hit es q k at.hit sound.apart None None (λ t. absurd (both_ways false refl t)) refl));
        long = only.long;
      }

pub full : (xs : List ℕ) → Sound Storable xs → (q : List Cell) (n : ℕ) → NoRow xs q → count_by taken (entries xs) ≡ length (entries xs) → Written xs xs q n (Err Full)
full xs sound q n none all =
    record {
      lines = refl;
      sound = sound;
      put = put_means (held (entries xs)) (held (entries xs)) (lines_in xs) q n (Err Full)
          (subst (λ m. PutList (held (entries xs)) (held (entries xs)) m q n (Err Full)) (entries_length xs) (put_full (entries xs) q none all n));
      long = refl;
    }

-- the write to the part of line k
module _ (xs : List ℕ) (sound : Sound Storable xs) (q : List Cell) (k m : ℕ) (long : m ≡ 128) (part : List ℕ) where
  line_written : (e : Place) → k < lines_in xs → Proper Storable e → part ≡ text e → OnlyLine k (text e) xs (put_mid (k * 128) m xs part)
  line_written e within p is = subst (λ w. OnlyLine k w xs (put_mid (k * 128) m xs part)) is (only_line k m xs part long within (ap length is ∙ text_length Storable idle e p))

  pub put_line : (fit : Storable q) (n : Count) → part ≡ shown q n.value → (AtRow xs q k ⊎ (NoRow xs q × FirstFree xs k)) → Written xs (put_mid (k * 128) m xs part) q n.value (Ok tt)
  put_line fit n is target =
      let within : k < lines_in xs = ⊎_elim (λ at. at.within) (λ f. f.1.within) target in
      put_to xs (put_mid (k * 128) m xs part) sound q k fit n.value n.few (line_written (Some (q, n.value)) within (fit, n.few) is) target

  pub drop_line : part ≡ blank_line → AtRow xs q k → Removed xs (put_mid (k * 128) m xs part) q true
  drop_line is at = drop_at_row xs (put_mid (k * 128) m xs part) sound q k (line_written None at.within tt is) at

pub kept : (xs : List ℕ) → Sound Storable xs → (q : List Cell) → NoRow xs q → Removed xs xs q false
kept xs sound q none =
    record { lines = refl; sound = sound; dropped = drop_means (held (entries xs)) (held (entries xs)) q false (drop_none (entries xs) q none); long = refl }
