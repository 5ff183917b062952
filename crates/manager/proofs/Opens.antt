-- A roll that an entry leaves is shorter.
use Rattle.std.proofs.Common.{◌≡◌, ℕ, ◌<◌, ◌≤◌, Bool, true, false, cond, not, eqb, List, [], ◌∷◌, length, take, filter, sym, ap, ◌∙◌, inl, inr, arith}
use Rattle.std.proofs.lemmas.List.{length-take-le}
use Rattle.std.proofs.lemmas.List.Sums.{length-filter, count_by-le-length}
use Rattle.std.proofs.lemmas.Bool.{eq-eqb}
use Rattle.maps.specs.Maps.{In}
use Rattle.rolls.specs.Rolls.{Has, without}

module _ {X : Type 0} where
  kept_most : (p : X → Bool) (xs : List X) → length (filter p xs) ≤ length xs
  kept_most p xs = omega (arith, length-filter p xs, count_by-le-length p xs)

  kept_fewer : (p : X → Bool) (xs : List X) (x : X) → In x xs → p x ≡ false → length (filter p xs) < length xs
  kept_fewer p [] x i e = absurd i
  kept_fewer p (y ∷ xs) x (inl z) e =
      let s : filter p (y ∷ xs) ≡ filter p xs = ap (λ b. cond b (y ∷ filter p xs) (filter p xs)) (sym (ap p z) ∙ e) in
      let m = kept_most p xs in
      omega (arith, ap length s, m)
  kept_fewer p (y ∷ xs) x (inr i) e = go (p y) (kept_fewer p xs x i e)
    where
      go : (b : Bool) → length (filter p xs) < length xs → length (cond b (y ∷ filter p xs) (filter p xs)) < length (y ∷ xs)
      go true h = omega arith
      go false h = omega arith

  pub fewer : (owned : X → ℕ) (t : ℕ) (xs ys : List X) (n n' : ℕ) → n ≤ length xs → n' ≤ length ys → take n' ys ≡ without owned t (take n xs) → Has owned t (take n xs) → n' < n
  fewer owned t xs ys n n' l l' e o =
      let a = length-take-le n xs l in
      let b = length-take-le n' ys l' in
      let f = kept_fewer (λ x. not (eqb (owned x) t)) (take n xs) o.0 o.1 (ap not (eq-eqb (owned o.0) t o.2)) in
      omega (arith, a, b, ap length e, f)
