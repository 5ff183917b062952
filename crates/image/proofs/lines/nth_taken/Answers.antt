use Rattle.std.proofs.Common.{ap, ◌∙◌, rules, tests}
use Rattle.std.specs.List.{filter, slice_get}
use Rattle.std.proofs.lemmas.Iterator.{YieldsList-from_slice}
use Rattle.std.proofs.lemmas.Iterator.Consumers.{nth_from_yields_List, YieldsList-from_filter}
use Rattle.image.proofs.Arrays.{taken_line}
use Rattle.image.proofs.lines.nth_taken.Goals as goal

pub returns : goal.returns
returns c =
    nth_from_yields_List c.nth.result _ c.args.n c.nth.ensures.ran (YieldsList-from_filter _ taken_line (YieldsList-from_slice c.lines_of.result.now cc) c.filter.ensures.closure (λ x b q k. search (rules, tests)))
    ∙ ap (λ ls. slice_get (filter taken_line ls) c.args.n) c.lines_of.ensures.lines
