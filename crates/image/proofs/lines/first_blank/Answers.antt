use Rattle.std.proofs.Common.{◌≡◌, true, false, rules, tests}
use Rattle.std.proofs.lemmas.Iterator.{YieldsList-from_slice, IsFirst-from_position}
use Rattle.stores.specs.Places.{taken}
use Rattle.image.specs.Meaning.{meaning}
use Rattle.image.proofs.Arrays.{first_free}
use Rattle.image.proofs.lines.first_blank.Goals as goal

pub returns : goal.returns
returns c =
    let lines = c.lines_of.result.now in
    first_free c.args.image.now lines c.lines_of.ensures.lines c.lines_of.ensures.many c.position.result
    (IsFirst-from_position _ _ c.position.result (λ l. taken (meaning l) ≡ false) (λ l. taken (meaning l) ≡ true) c.position.ensures.ran (YieldsList-from_slice lines cc) (λ x q k. search (rules, tests)) (λ x q k. search (rules, tests)))
