-- The first item that passes a test, where the test decides a property.
use Rattle.std.proofs.Common.{◌≡◌, ℕ, zero, suc, ◌<◌, ◌≤◌, Bool, true, false, List, [], ◌∷◌, length, get_or, take, cond, not, ltb, Some, None, Decides, MatchOption, Option, sym, refl, ap, ◌∙◌, subst, inl, inr, ⊎_elim, arith}
use Rattle.std.specs.List.{find, position, position_or_len}
use Rattle.std.proofs.lemmas.Bool.{both_ways, not-true, cond-true, ltb-false}
use Rattle.std.proofs.lemmas.List.{get_or_default}
use Rattle.std.proofs.lemmas.List.Quantifiers.{position-Some}
use Rattle.std.proofs.lemmas.List.Sums.{prefix_len_passes}
use Rattle.maps.specs.Maps.{In}

-- where an item of the first k stands
in_front : {X : Type 0} (xs : List X) (k : ℕ) (d y : X) → In y (take k xs) → (j : ℕ) × (j < k) × (j < length xs) × (get_or xs j d ≡ y)
in_front xs zero d y i = absurd i
in_front [] (suc k) d y i = absurd i
in_front (x ∷ xs) (suc k) d y (inl e) = (0, omega arith, omega arith, sym e)
in_front (x ∷ xs) (suc k) d y (inr i) = let r = in_front xs k d y i in (suc r.0, omega (arith, r.1), omega (arith, r.2), r.3)

in_all : {X : Type 0} (xs : List X) (d y : X) → In y xs → (j : ℕ) × (j < length xs) × (get_or xs j d ≡ y)
in_all [] d y i = absurd i
in_all (x ∷ xs) d y (inl e) = (0, omega arith, sym e)
in_all (x ∷ xs) d y (inr i) = let r = in_all xs d y i in (suc r.0, omega (arith, r.1), r.2)

none_before : {X : Type 0} (p : X → Bool) (xs : List X) → position p xs ≡ None → length xs ≤ position_or_len p xs
none_before p xs e = go (ltb (position_or_len p xs) (length xs)) refl
  where
    go : (b : Bool) → ltb (position_or_len p xs) (length xs) ≡ b → length xs ≤ position_or_len p xs
    go true h = absurd (let q : ◌≡◌ {A = Option ℕ} None (Some (position_or_len p xs)) = sym e ∙ cond-true (ltb (position_or_len p xs) (length xs)) (Some (position_or_len p xs)) None h in let z : ◌≡◌ {A = ℕ} 0 1 = cc in omega arith)
    go false h = ltb-false _ _ h

-- nothing passes where no position is found
pub none_passes : {X : Type 0} (p : X → Bool) (xs : List X) → position p xs ≡ None → (k : ℕ) (d : X) → k < length xs → p (get_or xs k d) ≡ false
none_passes p xs e k d l = not-true (p (get_or xs k d)) (prefix_len_passes (λ x. not (p x)) xs k d (omega (arith, none_before p xs e)))

module _ {X : Type 0} (P : X → Type 0) (p : X → Bool) (decides : (x : X) → Decides (p x) (P x)) where
  fails : (x : X) → p x ≡ false → ¬ P x
  fails x e h = both_ways (p x) e ((decides x).1 h)

  -- the first item that passes, told in words of the caller's, or none does
  pub first_found : (xs : List X) (First : ℕ → Type 0)
      → ((k : ℕ) (x : X) → k < length xs → x ≡ get_or xs k x → P x → ((y : X) → In y (take k xs) → ¬ P y) → First k)
      → (o : Option ℕ) → o ≡ position p xs → MatchOption o ((y : X) → In y xs → ¬ P y) First
  first_found xs First tell None e = λ y i.
      let r = in_all xs y y i in
      fails y (ap p (sym r.2) ∙ none_passes p xs (sym e) r.0 y r.1)
  first_found [] First tell (Some k) e = absurd (let f = position-Some {X = ℕ} (λ _. true) [] k 0 (sym e) in omega (arith, f.0))
  first_found (x ∷ xs) First tell (Some k) e =
      let f = position-Some p (x ∷ xs) k x (sym e) in
      let y = get_or (x ∷ xs) k x in
      tell k y f.0 (get_or_default (x ∷ xs) k x y f.0) ((decides y).0 f.1)
      (λ z i. let r = in_front (x ∷ xs) k x z i in fails z (ap p (sym r.3) ∙ f.2 r.0 r.1))

  -- an item that passes, or none does
  pub found : (xs : List X) (o : Option X) → o ≡ find p xs → MatchOption o ((y : X) → In y xs → ¬ P y) (λ y. In y xs × P y)
  found [] o e = subst (λ r. MatchOption r ((y : X) → In y [] → ¬ P y) (λ y. In y [] × P y)) (sym e) (λ y i. absurd i)
  found (x ∷ xs) o e = go (p x) refl e (found xs o)
    where
      more : p x ≡ false → (r : Option X) → MatchOption r ((y : X) → In y xs → ¬ P y) (λ y. In y xs × P y) → MatchOption r ((y : X) → In y (x ∷ xs) → ¬ P y) (λ y. In y (x ∷ xs) × P y)
      more h None n = λ y i. ⊎_elim (λ s w. fails x h (subst P s w)) (λ j. n y j) i
      more h (Some y) m = (inr m.0, m.1)

      go : (b : Bool) → p x ≡ b → o ≡ cond b (Some x) (find p xs) → (o ≡ find p xs → MatchOption o ((y : X) → In y xs → ¬ P y) (λ y. In y xs × P y)) → MatchOption o ((y : X) → In y (x ∷ xs) → ¬ P y) (λ y. In y (x ∷ xs) × P y)
      go true h q f = subst (λ r. MatchOption r ((y : X) → In y (x ∷ xs) → ¬ P y) (λ y. In y (x ∷ xs) × P y)) (sym q) (inl refl, (decides x).0 h)
      go false h q f = more h o (f q)
