-- Places as a map from rows to counts, with its rows: what the ghost members of stores cite.
use Rattle.std.specs.Prelude.{◌≡◌, ℕ, suc, ◌+◌, ◌≤◌, Bool, true, false, cond, not, List, [], ◌∷◌, length, is_some, Some, None, count_by, Option, refl}
use Rattle.std.proofs.Common.{sym, ap, ◌∙◌, inl, inr, arith}
use Rattle.std.specs.List.{AllByRecursion}
use Rattle.std.proofs.lemmas.List.Sums.{sum_by-cons, count_by-le-length}
use Rattle.std.proofs.lemmas.Bool.{cond-true, and_parts, not-true, both_ways}
use Rattle.maps.specs.Maps.{In, Once, Listed}
use Rattle.terms.specs.declared.cell.Cell.{Cell}
use Rattle.terms.specs.Equality.{cells_eq}
use Rattle.terms.specs.Rows.{same_true, same_self}
use Rattle.stores.specs.Places.{Holding, Place, taken, row_at, count_at, held, rows_in, look, apart, Apart}

none_some : (k : ℕ) → ◌≡◌ {A = Option ℕ} None (Some k) → ⊥
none_some k e = let z : ◌≡◌ {A = ℕ} 0 1 = cc in omega arith

some_some : (j k : ℕ) → ◌≡◌ {A = Option ℕ} (Some j) (Some k) → j ≡ k
some_some j k e = cc

-- the rows are those that have a count
pub in_look : (hs : List Holding) (q : List Cell) → In q (rows_in hs) → (k : ℕ) × (look hs q ≡ Some k)
in_look [] q i = absurd i
in_look (h ∷ hs) q (inl z) = (h.1, cond-true (cells_eq h.0 q) (Some h.1) (look hs q) (ap (cells_eq h.0) z ∙ same_self h.0))
in_look (h ∷ hs) q (inr i) = go (cells_eq h.0 q) (in_look hs q i)
  where
    go : (b : Bool) → ((k : ℕ) × (look hs q ≡ Some k)) → (k : ℕ) × (cond b (Some h.1) (look hs q) ≡ Some k)
    go true y = (h.1, refl)
    go false y = y

pub look_in : (hs : List Holding) (q : List Cell) (k : ℕ) → look hs q ≡ Some k → In q (rows_in hs)
look_in [] q k z = absurd (none_some k z)
look_in (h ∷ hs) q k z = go (cells_eq h.0 q) refl z (look_in hs q k)
  where
    go : (b : Bool) → cells_eq h.0 q ≡ b → cond b (Some h.1) (look hs q) ≡ Some k → (look hs q ≡ Some k → In q (rows_in hs)) → In q (rows_in (h ∷ hs))
    go true t z ih = inl (sym (same_true h.0 q t))
    go false t z ih = inr (ih z)

rows_once : (hs : List Holding) → Apart hs → Once (rows_in hs)
rows_once [] a = tt
rows_once (h ∷ hs) a =
    let p = and_parts (not (is_some (look hs h.0))) (apart hs) a in
    ((λ i. let y = in_look hs h.0 i in both_ways (is_some (look hs h.0)) (not-true _ p.0) (ap is_some y.1)), rows_once hs p.1)

pub listed_of : (hs : List Holding) → Apart hs → Listed (rows_in hs) (look hs)
listed_of hs a = record { once = rows_once hs a; those = λ r. (in_look hs r, λ y. look_in hs r y.0 y.1) }

-- there are no more rows than places
pub rows_length : (hs : List Holding) → length (rows_in hs) ≡ length hs
rows_length [] = refl
rows_length (h ∷ hs) = ap suc (rows_length hs)

used_length : (b : Bool) (h : Holding) (hs : List Holding) → length (cond b (h ∷ hs) hs) ≡ cond b 1 0 + length hs
used_length true h hs = omega arith
used_length false h hs = omega arith

pub held_length : (ps : List Place) → length (held ps) ≡ count_by taken ps
held_length [] = refl
held_length (p ∷ ps) = used_length (taken p) _ (held ps) ∙ ap (λ m. cond (taken p) 1 0 + m) (held_length ps) ∙ sym (sum_by-cons (λ x. cond (taken x) 1 0) p ps)

pub held_room : (ps : List Place) → length (rows_in (held ps)) ≤ length ps
held_room ps = omega (arith, rows_length (held ps), held_length ps, count_by-le-length taken ps)

-- a count that is looked up stands at a place
pub look_small : (top : ℕ) (ps : List Place) → AllByRecursion (λ p. count_at p ≤ top) ps → (q : List Cell) (n : ℕ) → look (held ps) q ≡ Some n → n ≤ top
look_small top [] a q n e = absurd (none_some n e)
look_small top (p ∷ ps) a q n e = go (taken p) e (look_small top ps a.1 q n)
  where
    here : (b : Bool) → cond b (Some (count_at p)) (look (held ps) q) ≡ Some n → (look (held ps) q ≡ Some n → n ≤ top) → n ≤ top
    here true z ih = let s = some_some (count_at p) n z in let l = a.0 in omega arith
    here false z ih = ih z

    go : (b : Bool) → look (cond b ((row_at p, count_at p) ∷ held ps) (held ps)) q ≡ Some n → (look (held ps) q ≡ Some n → n ≤ top) → n ≤ top
    go true z ih = here (cells_eq (row_at p) q) z ih
    go false z ih = ih z
