use Rattle.std.proofs.Common.{rules, tests}
use Rattle.std.proofs.lemmas.Iterator.{YieldsList-from_slice}
use Rattle.std.proofs.lemmas.Iterator.Consumers.{nth_from_yields_List, YieldsList-from_filter_map}
use Rattle.stores.proofs.Finding.{row_kept}
use Rattle.stores.proofs.places.used_row.Goals as goal

pub returns : goal.returns
returns c =
    row_kept c.args.records.now c.args.k c.nth.result
    (nth_from_yields_List c.nth.result _ c.args.k c.nth.ensures.ran
    (YieldsList-from_filter_map _ (λ r. r) (YieldsList-from_slice c.args.records.now cc) c.filter_map.ensures.closure (λ x r q k. search (rules, tests))))
