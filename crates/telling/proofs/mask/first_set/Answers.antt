use Rattle.std.proofs.Common.{rules}
use Rattle.std.proofs.lemmas.Iterator.{first_from_Range}
use borrow.Author.Tests.{tests}
use Rattle.kinds.specs.Sets.{Bit}
use Rattle.telling.proofs.mask.first_set.Goals as goal

pub returns : goal.returns
returns c = first_from_Range _ _ _ _ (λ k. Bit c.args.mask k) (λ k. Bit c.args.mask k → ⊥) c.find.ensures.ran (λ x q k. search (rules, tests)) (λ x q k. search (rules, tests))
