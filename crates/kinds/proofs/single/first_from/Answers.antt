use Rattle.std.proofs.Common.{ℕ, rules, arith}
use borrow.Author.Tests.{tests}
use Rattle.std.proofs.lemmas.Iterator.{first_from_Range}
use Rattle.kinds.proofs.Least.{smallest_up_to}
use Rattle.kinds.proofs.single.first_from.Goals as goal

pub returns : goal.returns
returns g c =
    let P : ℕ → Type 0 = g.M.Tested.passes c.args.set.now in
    smallest_up_to P g.row.T _ c.args.v c.find.result (omega (arith, c.TOP.result.is))
    (first_from_Range _ _ _ c.find.result P (λ k. P k → ⊥) c.find.ensures.ran
    (λ x q k. search (rules, tests)) (λ x q k. search (rules, tests)))
