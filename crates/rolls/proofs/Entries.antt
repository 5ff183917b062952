-- Entries of a list by their places.
use Rattle.std.proofs.Common.{◌≡◌, ℕ, zero, suc, ◌+◌, ◌<◌, ◌≤◌, List, [], ◌∷◌, ◌++◌, length, get_or, take, sym, refl, ap, ◌∙◌, subst, inl, inr, ⊎_elim, arith}
use Rattle.std.proofs.lemmas.List.{take_more, take_all}
use Rattle.maps.specs.Maps.{In}
use Rattle.maps.proofs.Lists.{in_push}

module _ {E : Type 0} where
  pub at_in : (xs : List E) (k : ℕ) (d : E) → k < length xs → In (get_or xs k d) xs
  at_in [] k d h = absurd (omega arith)
  at_in (x ∷ xs) zero d h = inl refl
  at_in (x ∷ xs) (suc k) d h = inr (at_in xs k d (omega arith))

  -- what holds of no entry before place i, and not of the entry there, holds of none before the next place
  pub none_more : (P : E → Type 0) (xs : List E) (i : ℕ) (x : E) → i < length xs → x ≡ get_or xs i x
      → ((e : E) → In e (take i xs) → ¬ P e) → ¬ P x → (e : E) → In e (take (i + 1) xs) → ¬ P e
  none_more P xs i x h at before here e n p =
      let m : In e (take i xs ++ (x ∷ [])) = subst (λ l. In e l) (take_more xs i x h ∙ ap (λ y. take i xs ++ (y ∷ [])) (sym at)) n in
      ⊎_elim (λ y. before e y p) (λ q. here (subst P q p)) (in_push (take i xs) x e m)

  pub none_all : (P : E → Type 0) (xs : List E) (i : ℕ) → length xs ≤ i → ((e : E) → In e (take i xs) → ¬ P e) → (e : E) → In e xs → ¬ P e
  none_all P xs i h f e n = f e (subst (λ l. In e l) (sym (take_all i xs h)) n)
