use Rattle.std.proofs.Common.{eqb, length, unwrap_or, ap, ◌∙◌, rules, tests}
use Rattle.std.proofs.lemmas.Iterator.{YieldsList-from_slice}
use Rattle.std.proofs.lemmas.Iterator.Adapters.{YieldsList-from_skip}
use Rattle.std.proofs.lemmas.Iterator.Consumers.{YieldsList-at}
use Rattle.std.proofs.lemmas.Iterator.Search.{position_from_yields_List}
use Rattle.requests.proofs.Groups.{start_is}
use Rattle.requests.proofs.loose.conditions_start.Goals as goal

pub returns-clause-value : goal.returns-clause-value
returns-clause-value c =
    let gs = c.args.groups.now in
    let chain = YieldsList-from_skip 1 (YieldsList-at c.skip.ensures.source (YieldsList-from_slice gs c.iter.ensures.rest)) c.skip.ensures.count in
    let p = position_from_yields_List (λ g. eqb g.letter 32) _ _ c.position.result c.position.ensures.ran chain (λ x b q k. search (rules, tests)) in
    c.unwrap_or.ensures ∙ ap (λ o. unwrap_or o (length gs)) p ∙ start_is gs
