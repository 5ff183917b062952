-- A transaction's change for a row, by its place.
use Rattle.std.proofs.Common.{◌≡◌, ℕ, zero, suc, ◌<◌, ◌⊎◌, List, [], ◌∷◌, ◌++◌, map, length, get_or, take, set, Some, None, Option, sym, refl, ap, ◌∙◌, inl, inr, arith}
use mathlib.Core.Logic.{if_pos, if_neg}
use Rattle.maps.specs.Maps.{In}
use Rattle.maps.proofs.Lists.{in_push}
use Rattle.terms.specs.declared.cell.Cell.{Cell}
use Rattle.terms.specs.Fitting.{cells_of}
use Rattle.terms.specs.Rows.{decided}
use Rattle.stores.specs.declared.count.Count.{Count}
use Rattle.terms.specs.declared.row.Row.{Row}
use Rattle.serial.specs.Machine.{is_for, pending_for, enter}
use Rattle.ledger.specs.declared.entry.PendingChange.{PendingChange}
use Rattle.ledger.specs.Words.{change_of, pending_of}
use Rattle.ledger.specs.Covering.{For}

pub set_take : {X : Type 0} (xs : List X) (n k : ℕ) (v : X) → take n (set xs k v) ≡ set (take n xs) k v
set_take [] zero k v = refl
set_take [] (suc n) k v = refl
set_take (x ∷ xs) zero zero v = refl
set_take (x ∷ xs) zero (suc k) v = refl
set_take (x ∷ xs) (suc n) zero v = refl
set_take (x ∷ xs) (suc n) (suc k) v = ap (λ l. x ∷ l) (set_take xs n k v)

-- what was set, or what stood there
in_set : {X : Type 0} (xs : List X) (k : ℕ) (v x : X) → In x (set xs k v) → In x xs ⊎ (x ≡ v)
in_set [] zero v x i = inl i
in_set [] (suc k) v x i = inl i
in_set (y ∷ xs) zero v x (inl e) = inr e
in_set (y ∷ xs) zero v x (inr i) = inl (inr i)
in_set (y ∷ xs) (suc k) v x (inl e) = inl (inl e)
in_set (y ∷ xs) (suc k) v x (inr i) = elim (in_set xs k v x i) [ inl j ↦ inl (inr j) | inr e ↦ inr e ]

module _ (t : ℕ) (q : List Cell) where
  pub pending_none : (l : List PendingChange) → ((c : PendingChange) → In c l → ¬ For t q c) → pending_for decided t q (map pending_of l) ≡ None
  pending_none [] f = refl
  pending_none (c ∷ l) f = if_neg (is_for decided t q (pending_of c)) (f c (inl refl)) _ _ ∙ pending_none l (λ b i. f b (inr i))

  pub pending_at : (l : List PendingChange) (k : ℕ) (d : PendingChange) → k < length l → For t q (get_or l k d) → ((c : PendingChange) → In c (take k l) → ¬ For t q c)
      → pending_for decided t q (map pending_of l) ≡ Some (change_of (get_or l k d).change)
  pending_at [] k d h e f = absurd (omega arith)
  pending_at (c ∷ l) zero d h e f = if_pos (is_for decided t q (pending_of c)) e _ _
  pending_at (c ∷ l) (suc k) d h e f =
      if_neg (is_for decided t q (pending_of c)) (f c (inl refl)) _ _ ∙ pending_at l k d (omega arith) e (λ b i. f b (inr i))

  -- the change becomes this one: in its place, or at the end
  module _ (row : Row) (key : cells_of row ≡ q) (v : Option Count) where
    abbrev made : PendingChange
    made = record { owner = t; row = row; change = v }

    made_is : pending_of made ≡ record { owner = t; row = q; change = change_of v }
    made_is = ap (λ k. record { owner = t; row = k; change = change_of v }) key

    pub entered_at : (l : List PendingChange) (k : ℕ) (d : PendingChange) → k < length l → For t q (get_or l k d) → ((c : PendingChange) → In c (take k l) → ¬ For t q c)
        → map pending_of (set l k made) ≡ enter decided t q (change_of v) (map pending_of l)
    entered_at [] k d h e f = absurd (omega arith)
    entered_at (c ∷ l) zero d h e f = ap (λ x. x ∷ map pending_of l) made_is ∙ sym (if_pos (is_for decided t q (pending_of c)) e _ _)
    entered_at (c ∷ l) (suc k) d h e f =
        ap (λ xs. pending_of c ∷ xs) (entered_at l k d (omega arith) e (λ b i. f b (inr i))) ∙ sym (if_neg (is_for decided t q (pending_of c)) (f c (inl refl)) _ _)

    pub entered_end : (l : List PendingChange) → ((c : PendingChange) → In c l → ¬ For t q c)
        → map pending_of (l ++ (made ∷ [])) ≡ enter decided t q (change_of v) (map pending_of l)
    entered_end [] f = ap (λ x. x ∷ []) made_is
    entered_end (c ∷ l) f = ap (λ xs. pending_of c ∷ xs) (entered_end l (λ b i. f b (inr i))) ∙ sym (if_neg (is_for decided t q (pending_of c)) (f c (inl refl)) _ _)

    -- every other row's change was there before
    pub rows_at : (l : List PendingChange) (k : ℕ) (c : PendingChange) → In c (set l k made) → (cells_of c.row ≡ q → ⊥) → In c l
    rows_at l k c i ne = elim (in_set l k made c i) [ inl j ↦ j | inr e ↦ absurd (ne (ap (λ z. cells_of z.row) e ∙ key)) ]

    pub rows_end : (l : List PendingChange) (c : PendingChange) → In c (l ++ (made ∷ [])) → (cells_of c.row ≡ q → ⊥) → In c l
    rows_end l c i ne = elim (in_push l made c i) [ inl j ↦ j | inr e ↦ absurd (ne (ap (λ z. cells_of z.row) e ∙ key)) ]
