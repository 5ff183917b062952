-- One row of the store, or one change, more of a survey.
use Rattle.std.proofs.Common.{◌≡◌, ℕ, zero, suc, ◌+◌, ◌<◌, List, [], ◌∷◌, ◌++◌, map, length, get_or, take, drop, Some, None, sym, ap, ◌∙◌, subst, inl, inr, arith}
use Rattle.std.specs.List.{slice_get}
use Rattle.std.proofs.lemmas.List.{take_more, take-append-drop, drop_more, map-append}
use Rattle.std.proofs.lemmas.Option.{slice_get-get_or}
use Rattle.maps.specs.Maps.{In, Once, Map, Figures}
use Rattle.rolls.proofs.Entries.{at_in}
use Rattle.terms.specs.declared.cell.Cell.{Cell}
use Rattle.terms.specs.Rows.{decided}
use Rattle.serial.specs.Rights.{Change.written, Change.struck}
use Rattle.serial.specs.Machine.{Pending, KeysOnce, pending_for, with_own}
use Rattle.serial.specs.Surveys.{Unchanged, Changed}
use Rattle.serial.proofs.Surveys.{row_taken, row_passed, change_taken, change_passed}
use Rattle.ledger.specs.declared.entry.PendingChange.{PendingChange}
use Rattle.ledger.specs.Words.{pending_of}

module _ {X : Type 0} where
  pub at_nth : (xs : List X) (k : ℕ) (x : X) → k < length xs → Some x ≡ slice_get xs k → x ≡ get_or xs k x
  at_nth xs k x h e = let a = slice_get-get_or xs k x h in cc

  pub nth_none : (xs : List X) (k : ℕ) (d : X) → k < length xs → None ≡ slice_get xs k → ⊥
  nth_none xs k d h e = let a = slice_get-get_or xs k d h in let z : ◌≡◌ {A = ℕ} 0 1 = cc in omega arith

  -- what stands once has not come before
  new : (xs : List X) (k : ℕ) (d : X) → k < length xs → Once xs → ¬ In (get_or xs k d) (take k xs)
  new [] k d h o i = absurd (omega arith)
  new (x ∷ xs) zero d h o i = i
  new (x ∷ xs) (suc k) d h o (inl e) = o.0 (subst (λ y. In y xs) e (at_in xs k d (omega arith)))
  new (x ∷ xs) (suc k) d h o (inr i) = new xs k d (omega arith) o.1 i

module _ (t : ℕ) (cs : List (Pending (List Cell))) (m : Map (List Cell)) (fits : List Cell → Type 0) (number total : ℕ) where
  module _ (rows : List (List Cell)) (once : Once rows) (k : ℕ) (r : List Cell) (h : k < length rows) (at : r ≡ get_or rows k r)
      (x : Figures (Unchanged decided t cs fits (take k rows)) (with_own decided t cs m) number total) where
    more : (a b : ℕ) → Figures (Unchanged decided t cs fits (take k rows ++ (r ∷ []))) (with_own decided t cs m) a b
        → Figures (Unchanged decided t cs fits (take (k + 1) rows)) (with_own decided t cs m) a b
    more a b = subst (λ l. Figures (Unchanged decided t cs fits l) (with_own decided t cs m) a b) (sym (take_more rows k r h ∙ ap (λ y. take k rows ++ (y ∷ [])) (sym at)))

    pub store_taken : (n : ℕ) → m r ≡ Some n → fits r → pending_for decided t r cs ≡ None
        → Figures (Unchanged decided t cs fits (take (k + 1) rows)) (with_own decided t cs m) (number + 1) (total + n)
    store_taken n e f q =
        more (number + 1) (total + n) (row_taken decided t cs m fits number total (take k rows) r n e (subst (λ y. ¬ In y (take k rows)) (sym at) (new rows k r h once)) f q x)

    pub store_passed : (fits r → pending_for decided t r cs ≡ None → ⊥) → Figures (Unchanged decided t cs fits (take (k + 1) rows)) (with_own decided t cs m) number total
    store_passed out = more number total (row_passed decided t cs m fits number total (take k rows) r out x)

module _ (t : ℕ) (l : List PendingChange) (keys : KeysOnce (map pending_of l)) (m : Map (List Cell)) (fits : List Cell → Type 0) (number total : ℕ)
    (i : ℕ) (c : PendingChange) (h : i < length l) (at : c ≡ get_or l i c)
    (x : Figures (Changed t fits (map pending_of (take i l))) (with_own decided t (map pending_of l) m) number total) where
  split : map pending_of l ≡ map pending_of (take i l) ++ (pending_of c ∷ map pending_of (drop (i + 1) l))
  split =
      ap (map pending_of) (sym (take-append-drop i l) ∙ ap (λ y. take i l ++ y) (drop_more l i c h ∙ ap (λ y. y ∷ drop (i + 1) l) (sym at)))
      ∙ map-append pending_of (take i l) (c ∷ drop (i + 1) l)

  next : (a b : ℕ) → Figures (Changed t fits (map pending_of (take i l) ++ (pending_of c ∷ []))) (with_own decided t (map pending_of l) m) a b
      → Figures (Changed t fits (map pending_of (take (i + 1) l))) (with_own decided t (map pending_of l) m) a b
  next a b =
      subst (λ k. Figures (Changed t fits k) (with_own decided t (map pending_of l) m) a b)
      (sym (ap (map pending_of) (take_more l i c h ∙ ap (λ y. take i l ++ (y ∷ [])) (sym at)) ∙ map-append pending_of (take i l) (c ∷ [])))

  pub own_taken : (n : ℕ) → c.owner ≡ t → (pending_of c).change ≡ written n → fits (pending_of c).row
      → Figures (Changed t fits (map pending_of (take (i + 1) l))) (with_own decided t (map pending_of l) m) (number + 1) (total + n)
  own_taken n e w f =
      next (number + 1) (total + n)
      (change_taken decided t (map pending_of l) m fits number total (map pending_of (take i l)) (map pending_of (drop (i + 1) l)) (pending_of c) split keys n e w f x)

  pub own_passed : (c.owner ≡ t → fits (pending_of c).row → (pending_of c).change ≡ struck)
      → Figures (Changed t fits (map pending_of (take (i + 1) l))) (with_own decided t (map pending_of l) m) number total
  own_passed out =
      next number total
      (change_passed decided t (map pending_of l) m fits number total (map pending_of (take i l)) (map pending_of (drop (i + 1) l)) (pending_of c) split keys out x)
