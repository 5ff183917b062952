-- Places after a write to one of them.
use Rattle.std.proofs.Common.{◌≡◌, ℕ, zero, suc, ◌+◌, ◌-◌, ◌<◌, Bool, true, false, cond, not, ◌&&◌, List, [], ◌∷◌, length, get_or, drop, set, is_some, Some, None, Ok, Err, count_by, Option, Result, sym, refl, ap, ◌∙◌, subst, ⊎_elim, arith}
use Rattle.std.specs.List.{slice_get}
use Rattle.std.proofs.lemmas.List.{length-set, at_drop_more}
use Rattle.std.proofs.lemmas.List.Sums.{sum_by-set, count_by-le-length}
use Rattle.std.proofs.lemmas.Bool.{and_parts, and_from, not-true, cond-true, cond-false, cases_Bool, both_ways}
use Rattle.terms.specs.declared.cell.Cell.{Cell}
use Rattle.stores.specs.declared.fault.StoreFault.{StoreFault}
use Rattle.stores.specs.declared.fault.StoreFault.TheVariants.{Full}
use Rattle.terms.specs.Equality.{cells_eq}
use Rattle.terms.specs.Rows.{same_true, same_self}
use Rattle.stores.specs.Places.{Holding, Place, row_at, count_at, held, hits, taken, NoHit, AtHit, AtFree, look, Apart}
use Rattle.stores.specs.Maps.{held_length}

-- A put and a drop over what is held, by the test of equality.
abbrev pub PutList : List Holding → List Holding → ℕ → List Cell → ℕ → Result (Unit {0}) StoreFault → Type 0
PutList es fs places row count (Ok u) =
    (is_some (look es row) ≡ false → length es < places) × ((q : List Cell) → look fs q ≡ cond (cells_eq row q) (Some count) (look es q))
PutList es fs places row count (Err f) = (f ≡ Full) × (is_some (look es row) ≡ false) × (length es ≡ places) × (fs ≡ es)

abbrev pub DropList : List Holding → List Holding → List Cell → Bool → Type 0
DropList es fs row r = (r ≡ is_some (look es row)) × ((q : List Cell) → look fs q ≡ cond (cells_eq row q) None (look es q))

-- the count that a table has for a row
abbrev find : List Place → List Cell → Option ℕ
find rs p = look (held rs) p

at_used : (b : Bool) (row : List Cell) (n : ℕ) (es : List Holding) (p : List Cell) → look (cond b ((row, n) ∷ es) es) p ≡ cond (b && cells_eq row p) (Some n) (look es p)
at_used true row n es p = refl
at_used false row n es p = refl

find_cons : (r : Place) (rs : List Place) (p : List Cell) → find (r ∷ rs) p ≡ cond (hits r p) (Some (count_at r)) (find rs p)
find_cons r rs p = at_used (taken r) (row_at r) (count_at r) (held rs) p

split : (b : Bool) (n : ℕ) (o : Option ℕ) → cond b (Some n) o ≡ None → (b ≡ false) × (o ≡ None)
split true n o e = absurd (let z : ◌≡◌ {A = ℕ} 0 1 = cc in omega arith)
split false n o e = (refl, e)

cons_none : (r : Place) (rs : List Place) (p : List Cell) → find (r ∷ rs) p ≡ None → (hits r p ≡ false) × (find rs p ≡ None)
cons_none r rs p e = split (hits r p) (count_at r) (find rs p) (sym (find_cons r rs p) ∙ e)

pub none_hits : (rs : List Place) (p : List Cell) (k : ℕ) (d : Place) → k < length rs → find rs p ≡ None → hits (get_or rs k d) p ≡ false
none_hits [] p k d h e = absurd (omega arith)
none_hits (r ∷ rs) p zero d h e = (cons_none r rs p e).0
none_hits (r ∷ rs) p (suc k) d h e = none_hits rs p k d (omega arith) (cons_none r rs p e).1

pub none_find : (rs : List Place) (q : List Cell) → NoHit rs q (length rs) → find rs q ≡ None
none_find [] q f = refl
none_find (r ∷ rs) q f = find_cons r rs q ∙ cond-false (hits r q) _ _ (f 0 r (omega arith)) ∙ none_find rs q (λ j d h. f (suc j) d (omega arith))

-- the first place that holds the row has its count
pub first_find : (rs : List Place) (q : List Cell) (k : ℕ) (d : Place) → k < length rs → NoHit rs q k → hits (get_or rs k d) q ≡ true → find rs q ≡ Some (count_at (get_or rs k d))
first_find [] q k d h misses e = absurd (omega arith)
first_find (r ∷ rs) q zero d h misses e = find_cons r rs q ∙ cond-true (hits r q) _ _ e
first_find (r ∷ rs) q (suc k) d h misses e = find_cons r rs q ∙ cond-false (hits r q) _ _ (misses 0 r (omega arith)) ∙ first_find rs q k d (omega arith) (λ j c l. misses (suc j) c (omega arith)) e

-- at most place k is in use for q
abbrev Only : List Place → List Cell → ℕ → Type 0
Only [] q k = Unit {0}
Only (r ∷ rs) q zero = find rs q ≡ None
Only (r ∷ rs) q (suc k) = (hits r q ≡ false) × Only rs q k

only_from_none : (rs : List Place) (q : List Cell) (k : ℕ) → find rs q ≡ None → Only rs q k
only_from_none [] q k e = tt
only_from_none (r ∷ rs) q zero e = (cons_none r rs q e).1
only_from_none (r ∷ rs) q (suc k) e = ((cons_none r rs q e).0, only_from_none rs q k (cons_none r rs q e).1)

only_find : (rs : List Place) (q : List Cell) (k : ℕ) (d : Place) → k < length rs → Only rs q k → hits (get_or rs k d) q ≡ true → find rs q ≡ Some (count_at (get_or rs k d))
only_find [] q k d h o e = absurd (omega arith)
only_find (r ∷ rs) q zero d h o e = find_cons r rs q ∙ cond-true (hits r q) _ _ e
only_find (r ∷ rs) q (suc k) d h o e = find_cons r rs q ∙ cond-false (hits r q) _ _ o.0 ∙ only_find rs q k d (omega arith) o.1 e

none_from : (o : Option ℕ) → is_some o ≡ false → o ≡ None
none_from None e = refl
none_from (Some n) e = absurd (both_ways true e refl)

apart_used : (b : Bool) (row : List Cell) (n : ℕ) (es : List Holding) → Apart (cond b ((row, n) ∷ es) es) → (b ≡ true → look es row ≡ None) × Apart es
apart_used true row n es h = let p = and_parts (not (is_some (look es row))) _ h in (λ _. none_from (look es row) (not-true _ p.0), p.1)
apart_used false row n es h = (λ e. absurd (both_ways false refl e), h)

pub apart_parts : (r : Place) (rs : List Place) → Apart (held (r ∷ rs)) → (taken r ≡ true → find rs (row_at r) ≡ None) × Apart (held rs)
apart_parts r rs h = apart_used (taken r) (row_at r) (count_at r) (held rs) h

made_used : (b : Bool) (row : List Cell) (n : ℕ) (es : List Holding) → (b ≡ true → look es row ≡ None) → Apart es → Apart (cond b ((row, n) ∷ es) es)
made_used true row n es f h = and_from _ _ (ap (λ o. not (is_some o)) (f refl)) h
made_used false row n es f h = h

hits_row : (r : Place) (q : List Cell) → hits r q ≡ true → (taken r ≡ true) × (row_at r ≡ q)
hits_row r q e = let p = and_parts (taken r) (cells_eq (row_at r) q) e in (p.0, same_true _ _ p.1)

only_from_apart : (rs : List Place) (q : List Cell) (k : ℕ) (d : Place) → k < length rs → Apart (held rs) → hits (get_or rs k d) q ≡ true → Only rs q k
only_from_apart [] q k d h a e = tt
only_from_apart (r ∷ rs) q zero d h a e =
    let p = hits_row r q e in sym (ap (find rs) p.1) ∙ (apart_parts r rs a).0 p.0
only_from_apart (r ∷ rs) q (suc k) d h a e = (
  ⊎_elim
      (λ t. let p = hits_row r q t in absurd (both_ways (hits (get_or rs k d) q) (none_hits rs q k d (omega arith) (sym (ap (find rs) p.1) ∙ (apart_parts r rs a).0 p.0)) e))
      (λ f. f)
      (cases_Bool (hits r q)),
  only_from_apart rs q k d (omega arith) (apart_parts r rs a).1 e,
)

-- a write to place k, seen from a row that neither the old nor the new record is for, and from the row q
elsewhere : (rs : List Place) (k : ℕ) (n : Place) (p : List Cell) → hits n p ≡ false → ((d : Place) → hits (get_or rs k d) p ≡ false) → find (set rs k n) p ≡ find rs p
elsewhere [] k n p e f = refl
elsewhere (r ∷ rs) zero n p e f = find_cons n rs p ∙ cond-false (hits n p) _ _ e ∙ sym (find_cons r rs p ∙ cond-false (hits r p) _ _ (f r))
elsewhere (r ∷ rs) (suc k) n p e f = find_cons r (set rs k n) p ∙ ap (cond (hits r p) (Some (count_at r))) (elsewhere rs k n p e f) ∙ sym (find_cons r rs p)

there : (rs : List Place) (k : ℕ) (n : Place) (q : List Cell) → k < length rs → Only rs q k → find (set rs k n) q ≡ cond (hits n q) (Some (count_at n)) None
there [] k n q h o = absurd (omega arith)
there (r ∷ rs) zero n q h o = find_cons n rs q ∙ ap (cond (hits n q) (Some (count_at n))) o
there (r ∷ rs) (suc k) n q h o = find_cons r (set rs k n) q ∙ cond-false (hits r q) _ _ o.0 ∙ there rs k n q (omega arith) o.1

other_row : (b : Bool) (row q p : List Cell) → (b ≡ true → row ≡ q) → cells_eq q p ≡ false → (b && cells_eq row p) ≡ false
other_row true row q p f e = ap (λ x. cells_eq x p) (f refl) ∙ e
other_row false row q p f e = refl

module _ (rs : List Place) (k : ℕ) (n : Place) (q : List Cell) (h : k < length rs) (o : Only rs q k)
    (new : taken n ≡ true → row_at n ≡ q) (old : (d : Place) → taken (get_or rs k d) ≡ true → row_at (get_or rs k d) ≡ q) where
  go : (p : List Cell) (b : Bool) → cells_eq q p ≡ b → find (set rs k n) p ≡ cond b (cond (hits n q) (Some (count_at n)) None) (find rs p)
  go p true e = subst (λ (x : List Cell). find (set rs k n) x ≡ cond (hits n q) (Some (count_at n)) None) (same_true q p e) (there rs k n q h o)
  go p false e = elsewhere rs k n p (other_row (taken n) (row_at n) q p new e) (λ d. other_row (taken (get_or rs k d)) (row_at (get_or rs k d)) q p (old d) e)

  set_find : (p : List Cell) → find (set rs k n) p ≡ cond (cells_eq q p) (cond (hits n q) (Some (count_at n)) None) (find rs p)
  set_find p = go p (cells_eq q p) refl

not_row : (r : Place) (q : List Cell) → hits r q ≡ false → taken r ≡ true → cells_eq q (row_at r) ≡ false
not_row r q e u =
    ⊎_elim
    (λ t. let k = same_true q (row_at r) t in
    absurd (both_ways (hits r q) e (and_from _ _ u (ap (cells_eq (row_at r)) k ∙ same_self (row_at r)))))
    (λ f. f)
    (cases_Bool (cells_eq q (row_at r)))

set_apart : (rs : List Place) (k : ℕ) (n : Place) (q : List Cell) → k < length rs → Only rs q k → (taken n ≡ true → row_at n ≡ q) → Apart (held rs) → Apart (held (set rs k n))
set_apart [] k n q h o new a = a
set_apart (r ∷ rs) zero n q h o new a = made_used (taken n) _ (count_at n) (held rs) (λ u. ap (find rs) (new u) ∙ o) (apart_parts r rs a).1
set_apart (r ∷ rs) (suc k) n q h o new a =
    made_used (taken r) _ (count_at r) (held (set rs k n))
    (λ u. let none = (apart_parts r rs a).0 u in
    elsewhere rs k n (row_at r) (other_row (taken n) (row_at n) q _ new (not_row r q o.0 u)) (λ d. none_hits rs (row_at r) k d (omega arith) none) ∙ none)
    (set_apart rs k n q (omega arith) o.1 new (apart_parts r rs a).1)

-- the three writes of a table
module _ (rs : List Place) (q : List Cell) (k : ℕ) (at : AtHit rs q k) (a : Apart (held rs)) (d : Place) where
  only_hit : Only rs q k
  only_hit = only_from_apart rs q k d at.within a (at.here d)

  pub hit_find : find rs q ≡ Some (count_at (get_or rs k d))
  hit_find = only_find rs q k d at.within only_hit (at.here d)

  old_row : (e : Place) → taken (get_or rs k e) ≡ true → row_at (get_or rs k e) ≡ q
  old_row e u = (hits_row (get_or rs k e) q (at.here e)).1

  module _ (n : Place) (new : taken n ≡ true → row_at n ≡ q) where
    pub hit_apart : Apart (held (set rs k n))
    hit_apart = set_apart rs k n q at.within only_hit new a

    hit_set : (p : List Cell) → find (set rs k n) p ≡ cond (cells_eq q p) (cond (hits n q) (Some (count_at n)) None) (find rs p)
    hit_set = set_find rs k n q at.within only_hit new old_row

    pub put_hit : taken n ≡ true → row_at n ≡ q → (u : Unit {0}) → PutList (held rs) (held (set rs k n)) (length rs) q (count_at n) (Ok u)
    put_hit t row u =
        let hn : hits n q ≡ true = and_from (taken n) _ t (ap (λ x. cells_eq x q) row ∙ same_self q) in
        let some : is_some (find rs q) ≡ true = ap is_some hit_find in
        ((λ e. absurd (both_ways _ e some)), λ p. hit_set p ∙ ap (λ w. cond (cells_eq q p) w (find rs p)) (cond-true (hits n q) _ _ hn))

    pub drop_hit : taken n ≡ false → DropList (held rs) (held (set rs k n)) q true
    drop_hit u =
        let hn : hits n q ≡ false = ap (λ b. b && cells_eq (row_at n) q) u in
        (sym (ap is_some hit_find), λ p. hit_set p ∙ ap (λ w. cond (cells_eq q p) w (find rs p)) (cond-false (hits n q) _ _ hn))

module _ (rs : List Place) (q : List Cell) (none : NoHit rs q (length rs)) where
  absent : is_some (find rs q) ≡ false
  absent = ap is_some (none_find rs q none)

  same_none : (p : List Cell) (b : Bool) → cells_eq q p ≡ b → find rs p ≡ cond b None (find rs p)
  same_none p true e = sym (ap (find rs) (same_true q p e)) ∙ none_find rs q none
  same_none p false e = refl

  pub drop_none : DropList (held rs) (held rs) q false
  drop_none = (sym absent, λ p. same_none p (cells_eq q p) refl)

  pub put_full : count_by taken rs ≡ length rs → (c : ℕ) → PutList (held rs) (held rs) (length rs) q c (Err Full)
  put_full e c = (refl, absent, held_length rs ∙ e, refl)

  module _ (k : ℕ) (at : AtFree rs k) (d n : Place) (u : taken n ≡ true) (row : row_at n ≡ q) where
    only_free : Only rs q k
    only_free = only_from_none rs q k (none_find rs q none)

    pub free_apart : Apart (held rs) → Apart (held (set rs k n))
    free_apart a = set_apart rs k n q at.within only_free (λ _. row) a

    free_room : length (held rs) < length rs
    free_room =
        let s = sum_by-set (λ x. cond (taken x) 1 0) rs k n d at.within in
        let one : ◌≡◌ {A = ℕ} (cond (taken n) 1 0) 1 = ap (λ b. cond b 1 0) u in
        let zero' : ◌≡◌ {A = ℕ} (cond (taken (get_or rs k d)) 1 0) 0 = ap (λ b. cond b 1 0) (at.here d) in
        omega (arith, held_length rs, s, one, zero', count_by-le-length taken (set rs k n), length-set rs k n)

    pub put_free : (f : Unit {0}) → PutList (held rs) (held (set rs k n)) (length rs) q (count_at n) (Ok f)
    put_free f =
        let hn : hits n q ≡ true = and_from (taken n) _ u (ap (λ x. cells_eq x q) row ∙ same_self q) in
        let s = set_find rs k n q at.within only_free (λ _. row) (λ e w. absurd (both_ways _ (at.here e) w)) in
        ((λ _. free_room), λ p. s p ∙ ap (λ w. cond (cells_eq q p) w (find rs p)) (cond-true (hits n q) _ _ hn))

-- row number n from place i on
module _ (rs : List Place) (i : ℕ) (r : Place) (h : i < length rs) (e : r ≡ get_or rs i r) where
  row_step : (n : ℕ) → slice_get (held (drop i rs)) n ≡ slice_get (held (r ∷ drop (i + 1) rs)) n
  row_step n = at_drop_more (λ xs. slice_get (held xs) n) rs i r h ∙ ap (λ x. slice_get (held (x ∷ drop (i + 1) rs)) n) (sym e)

  used_step : taken r ≡ true → (n : ℕ) → slice_get (held (r ∷ drop (i + 1) rs)) n ≡ slice_get ((row_at r, count_at r) ∷ held (drop (i + 1) rs)) n
  used_step u n = ap (λ b. slice_get (cond b ((row_at r, count_at r) ∷ held (drop (i + 1) rs)) (held (drop (i + 1) rs))) n) u

  pub row_here : taken r ≡ true → (n : ℕ) → n ≡ 0 → Some (row_at r, count_at r) ≡ slice_get (held (drop i rs)) n
  row_here u n z = sym (row_step n ∙ used_step u n ∙ ap (slice_get ((row_at r, count_at r) ∷ held (drop (i + 1) rs))) z)

  pub row_next : taken r ≡ true → (n : ℕ) → (n ≡ 0 → ⊥) → slice_get (held (drop (i + 1) rs)) (n - 1) ≡ slice_get (held (drop i rs)) n
  row_next u zero z = absurd (z refl)
  row_next u (suc m) z =
      let d : suc m - 1 ≡ m = omega arith in
      ap (slice_get (held (drop (i + 1) rs))) d ∙ sym (row_step (suc m) ∙ used_step u (suc m))

  pub row_skip : taken r ≡ false → (n : ℕ) → slice_get (held (drop (i + 1) rs)) n ≡ slice_get (held (drop i rs)) n
  row_skip u n = sym (row_step n ∙ ap (λ b. slice_get (cond b ((row_at r, count_at r) ∷ held (drop (i + 1) rs)) (held (drop (i + 1) rs))) n) u)
