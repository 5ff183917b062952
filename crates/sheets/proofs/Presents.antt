-- Those that are there, of a list that grows at its end.
use Rattle.std.proofs.Common.{◌≡◌, ℕ, ◌+◌, ◌<◌, List, [], ◌∷◌, ◌++◌, map, length, get_or, take, Some, None, Option, refl, ap, ◌∙◌}
use Rattle.std.specs.Option.{option_map}
use Rattle.std.proofs.lemmas.List.{take_more, map-append}
use Rattle.runs.specs.Runs.{present}

present_append : {A : Type 0} (l k : List (Option A)) → present (l ++ k) ≡ present l ++ present k
present_append [] k = refl
present_append (Some a ∷ l) k = ap (λ z. a ∷ z) (present_append l k)
present_append (None ∷ l) k = present_append l k

module _ {A B : Type 0} (f : A → B) (xs : List (Option A)) (i : ℕ) (d : Option A) (l : i < length xs) where
  step : present (map (option_map f) (take (i + 1) xs)) ≡ present (map (option_map f) (take i xs)) ++ present (option_map f (get_or xs i d) ∷ [])
  step = ap (λ z. present (map (option_map f) z)) (take_more xs i d l)
      ∙ ap present (map-append (option_map f) (take i xs) (get_or xs i d ∷ []))
      ∙ present_append (map (option_map f) (take i xs)) (option_map f (get_or xs i d) ∷ [])

  pub present_some : (a : A) → get_or xs i d ≡ Some a → present (map (option_map f) (take (i + 1) xs)) ≡ present (map (option_map f) (take i xs)) ++ (f a ∷ [])
  present_some a e = step ∙ ap (λ o. present (map (option_map f) (take i xs)) ++ present (option_map f o ∷ [])) e

  pub present_none : get_or xs i d ≡ None → present (map (option_map f) (take (i + 1) xs)) ≡ present (map (option_map f) (take i xs)) ++ []
  present_none e = step ∙ ap (λ o. present (map (option_map f) (take i xs)) ++ present (option_map f o ∷ [])) e
