use Rattle.std.proofs.Common.{◌≡◌, map, vec_items, ap, ◌∙◌, subst, rules}
use Rattle.std.specs.Result.{IfOk}
use Rattle.std.proofs.lemmas.Iterator.{YieldsList-from_slice, YieldsList-from_map, items_from_collect}
use Rattle.std.proofs.lemmas.Iterator.Consumers.{YieldsList-at}
use Rattle.requests.proofs.Groups.{of_three, conditions_are}
use Rattle.requests.proofs.loose.conditions_in.Goals as goal

pub returns : goal.returns
returns c =
    let gs = c.args.groups.now in
    subst (λ l. IfOk c.collect.result (λ v. vec_items v ≡ l)) (ap (map of_three) c.as_chunks.ensures.front ∙ conditions_are gs)
    (items_from_collect c.collect.result c.collect.ensures.ran
    (YieldsList-from_map _ of_three (YieldsList-at c.map.ensures.source (YieldsList-from_slice c.as_chunks.result.0.now c.iter.ensures.rest)) c.map.ensures.closure (λ x r q k. search rules)))
