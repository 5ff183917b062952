use Rattle.std.proofs.Common.{rules, arith, ℕ, ◌≤◌, ◌<◌, Option, Some, None, MatchOption, unwrap_or}
use Rattle.std.proofs.lemmas.Iterator.{first_from_Range}
use borrow.Author.Tests.{tests}
use Rattle.kinds.specs.Sets.{Bit}
use Rattle.telling.specs.Runs.{Filled}
use Rattle.telling.proofs.mask.first_clear.Goals as goal

-- where the set bits end: the first clear one, or the top
ending : (mask at top : ℕ) (r : Option ℕ) → at ≤ top → MatchOption r (Filled mask at top) (λ i. (at ≤ i) × (i < top) × (Bit mask i → ⊥) × Filled mask at i) → let k = unwrap_or r top in (at ≤ k) × (k ≤ top) × Filled mask at k × (k < top → Bit mask k → ⊥)
ending mask at top None low filled = (low, omega arith, filled, λ more. absurd (omega arith))
ending mask at top (Some i) low found = (found.0, omega arith, found.3, λ _. found.2)

pub returns : goal.returns
returns c =
    let first = first_from_Range _ _ _ _ (λ k. Bit c.args.mask k → ⊥) (λ k. Bit c.args.mask k) c.find.ensures.ran (λ x q k. search (rules, tests)) (λ x q k. search (rules, tests)) in
    rw c.unwrap_or.ensures (ending _ _ _ _ c.requires first)
