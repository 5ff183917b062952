use Rattle.std.proofs.Common.{◌<◌, ℕ, Bool, true, false, List, [], ◌∷◌, length, Decides, MatchBool, refl, arith, rules, tests}
use Rattle.std.specs.List.{AllByRecursion, AllWithin, HoldsAt}
use Rattle.std.proofs.lemmas.Bool.{false≢true}
use Rattle.std.proofs.lemmas.Iterator.{YieldsList-from_slice, cases_from_all}
use Rattle.std.proofs.lemmas.List.Elements.{All-from_recursion, recursion_from_All}
use Rattle.requests.specs.Layout.{LaidConstraint}
use Rattle.requests.proofs.laid.are_laid_constraints.Goals as goal

-- where a call of `all` ends
decided : {X : Type 0} (P : X → Type 0) (r : Bool) (xs : List X) → MatchBool r (AllWithin P xs 0 (length xs)) ((k : ℕ) × (k < length xs) × HoldsAt (λ x. P x → ⊥) xs k) → Decides r (AllByRecursion P xs)
decided {X = X} P true xs h = (λ _. recursion_from_All P xs (λ k d l. h k d (omega arith) l), λ _. refl)
decided {X = X} P false xs h = (λ e. absurd (false≢true e), λ all. absurd (none xs h all))
  where
    none : (xs : List X) → ((k : ℕ) × (k < length xs) × HoldsAt (λ x. P x → ⊥) xs k) → AllByRecursion P xs → ⊥
    none [] h all = let l = h.1 in omega arith
    none (x ∷ xs) h all = h.2 x (All-from_recursion P (x ∷ xs) all h.0 x h.1)

pub returns : goal.returns
returns c =
    decided LaidConstraint c.all.result c.args.constraints.now
    (cases_from_all _ _ _ LaidConstraint (λ k. LaidConstraint k → ⊥) c.all.ensures.ran (YieldsList-from_slice c.args.constraints.now c.iter.ensures.rest) (λ x q k. search (rules, tests)) (λ x q k. search (rules, tests)))
