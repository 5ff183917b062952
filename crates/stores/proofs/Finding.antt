-- The first record that passes a test, and the records in use.
use Rattle.std.proofs.Common.{◌≡◌, ℕ, ◌<◌, zero, suc, ◌+◌, Bool, true, false, cond, not, replicate, count_by, List, [], ◌∷◌, length, get_or, map, Some, None, Err, MatchOption, Option, sym, refl, ap, subst, ◌∙◌, arith}
use Rattle.std.specs.List.{position, filter_map, slice_get}
use Rattle.std.specs.Option.{option_map, ok_or}
use Rattle.std.specs.Result.{IfErr}
use Rattle.std.proofs.lemmas.Result.{IfErr-at_err}
use Rattle.std.proofs.lemmas.List.{get_or-map, length-map}
use Rattle.std.proofs.lemmas.Option.{slice_get-map}
use Rattle.std.proofs.lemmas.List.Sums.{sum_by-cons}
use Rattle.std.proofs.lemmas.Bool.{not-true, both_ways}
use Rattle.std.proofs.lemmas.List.Quantifiers.{position-Some}
use Rattle.maps.proofs.Finding.{none_passes}
use Rattle.terms.specs.declared.cell.Cell.{Cell}
use Rattle.stores.specs.declared.entry.Entry.{Entry}
use Rattle.stores.specs.Means.{count_of}
use Rattle.stores.proofs.Writes.{none_find, first_find}
use Rattle.stores.specs.Places.{count_at, hits, taken, held, look, NoHit, AtHit, AtFree}
use Rattle.stores.specs.Table.{Record, place_of, contents, holding_of}

pub place_found : (q : List Cell) (rs : List Record) (o : Option ℕ) → o ≡ position (λ r. hits (place_of r) q) rs
    → MatchOption o (NoHit (contents rs) q (length rs)) (λ k. (k < length rs) × AtHit (contents rs) q k × NoHit (contents rs) q k)
place_found q rs None e = λ j d l. ap (λ p. hits p q) (get_or-map place_of rs j None d l) ∙ none_passes (λ r. hits (place_of r) q) rs (sym e) j None l
place_found q rs (Some k) e =
    let f = position-Some (λ r. hits (place_of r) q) rs k None (sym e) in
    (f.0, record { within = omega (arith, f.0, length-map rs place_of); here = λ d. ap (λ p. hits p q) (get_or-map place_of rs k None d f.0) ∙ f.1 }, λ j d l. ap (λ p. hits p q) (get_or-map place_of rs j None d (omega (arith, f.0))) ∙ f.2 j l)

rows_kept : (rs : List Record) → map holding_of (filter_map (λ r. r) rs) ≡ held (contents rs)
rows_kept [] = refl
rows_kept (None ∷ rs) = rows_kept rs
rows_kept (Some e ∷ rs) = ap (λ hs. holding_of e ∷ hs) (rows_kept rs)

pub row_kept : (rs : List Record) (k : ℕ) (o : Option Entry) → option_map (λ e. e) o ≡ slice_get (filter_map (λ r. r) rs) k
    → option_map holding_of o ≡ slice_get (held (contents rs)) k
row_kept rs k o e = sym (same o) ∙ ap (option_map holding_of) e ∙ sym (slice_get-map holding_of (filter_map (λ r. r) rs) k) ∙ ap (λ hs. slice_get hs k) (rows_kept rs)
  where
    same : (o : Option Entry) → option_map holding_of (option_map (λ e. e) o) ≡ option_map holding_of o
    same None = refl
    same (Some e) = refl

-- the first free record
pub free_found : (rs : List Record) (o : Option ℕ) → o ≡ position (λ r. not (taken (place_of r))) rs
    → MatchOption o (count_by taken (contents rs) ≡ length rs) (λ k. (k < length rs) × AtFree (contents rs) k)
free_found rs None e = all_taken rs (none_passes (λ r. not (taken (place_of r))) rs (sym e))
  where
    all_taken : (rs : List Record) → ((k : ℕ) (d : Record) → k < length rs → not (taken (place_of (get_or rs k d))) ≡ false) → count_by taken (contents rs) ≡ length rs
    all_taken [] f = refl
    all_taken (r ∷ rs) f = sum_by-cons _ (place_of r) (contents rs) ∙ one (taken (place_of r)) (f 0 r (omega arith)) (all_taken rs (λ k d l. f (suc k) d (omega arith)))
      where
        one : (b : Bool) → not b ≡ false → count_by taken (contents rs) ≡ length rs → cond b 1 0 + count_by taken (contents rs) ≡ suc (length rs)
        one true h e = omega arith
        one false h e = absurd (both_ways true h refl)
free_found rs (Some k) e =
    let f = position-Some (λ r. not (taken (place_of r))) rs k None (sym e) in
    (f.0, record { within = omega (arith, f.0, length-map rs place_of); here = λ d. ap taken (get_or-map place_of rs k None d f.0) ∙ not-true _ f.1 })

-- every record freed
pub freed : (n : ℕ) → held (contents (replicate n None)) ≡ []
freed zero = refl
freed (suc n) = freed n

-- what the first record with a row holds
pub count_found : (rs : List Record) (q : List Cell) (k : ℕ) (r : Record) → k < length rs → AtHit (contents rs) q k → NoHit (contents rs) q k → r ≡ get_or rs k r
    → option_map (λ e. count_of e.count) r ≡ look (held (contents rs)) q
count_found rs q k r l at before e =
    let is : get_or (contents rs) k None ≡ place_of r = get_or-map place_of rs k r None l ∙ ap place_of (sym e) in
    go r (ap (λ p. hits p q) (sym is) ∙ at.here None) ∙ ap (λ p. Some (count_at p)) (sym is) ∙ sym (first_find (contents rs) q k None at.within before (at.here None))
  where
    go : (r : Record) → hits (place_of r) q ≡ true → option_map (λ e. count_of e.count) r ≡ Some (count_at (place_of r))
    go None h = absurd (both_ways false refl h)
    go (Some e) h = refl

-- where no record has the row
pub count_missing : (rs : List Record) (q : List Cell) → NoHit (contents rs) q (length rs) → look (held (contents rs)) q ≡ None
count_missing rs q none = none_find (contents rs) q (λ j d l. none j d (omega (arith, l, length-map rs place_of)))

-- what is said of an Option, once it is known which it is
pub when_some : {A : Type 0} (N : Type 0) (S : A → Type 0) {o : Option A} {a : A} → o ≡ Some a → MatchOption o N S → S a
when_some N S e m = subst (λ x. MatchOption x N S) e m

pub when_none : {A : Type 0} (N : Type 0) (S : A → Type 0) {o : Option A} → o ≡ None → MatchOption o N S → N
when_none N S e m = subst (λ x. MatchOption x N S) e m

-- the error that an absent value becomes
pub none_err : {A E : Type 0} {o : Option A} {e y : E} → Err y ≡ ok_or o e → o ≡ None → y ≡ e
none_err {e = e} v n = IfErr-at_err (λ x. x ≡ e) (sym v) (subst (λ x. IfErr (ok_or x e) (λ z. z ≡ e)) (sym n) refl)
