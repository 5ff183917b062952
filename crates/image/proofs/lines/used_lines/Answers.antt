use Rattle.std.proofs.Common.{◌+◌, cond, count_by, sym, ap, ◌∙◌, rules, tests}
use Rattle.std.proofs.lemmas.Iterator.{YieldsList-from_slice}
use Rattle.std.proofs.lemmas.Iterator.Consumers.{count_from_yields_List, YieldsList-from_filter}
use Rattle.std.proofs.lemmas.List.Folds.{fold-map}
use Rattle.std.proofs.lemmas.List.Sums.{length-filter}
use Rattle.stores.specs.Places.{taken}
use Rattle.image.specs.Meaning.{meaning}
use Rattle.image.proofs.Arrays.{lines_mean}
use Rattle.image.proofs.lines.used_lines.Goals as goal

pub returns : goal.returns
returns c =
    let lines = c.lines_of.result.now in
    count_from_yields_List c.filter.result c.count.result c.count.ensures.ran (YieldsList-from_filter _ (λ l. taken (meaning l)) (YieldsList-from_slice lines cc) c.filter.ensures.closure (λ x b q k. search (rules, tests)))
    ∙ length-filter (λ l. taken (meaning l)) lines
    ∙ sym (fold-map (λ a p. a + cond (taken p) 1 0) meaning 0 lines)
    ∙ ap (count_by taken) (lines_mean c.args.image.now lines c.lines_of.ensures.lines c.lines_of.ensures.many)
