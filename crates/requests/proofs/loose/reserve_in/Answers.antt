use Rattle.std.proofs.Common.{◌≡◌, take, drop, vec_items, ap, ◌∙◌}
use Rattle.std.proofs.lemmas.List.{take_rest}
use Rattle.requests.specs.Steps.{start, conditions}
use Rattle.requests.proofs.loose.reserve_in.Goals as goal

pub returns : goal.returns
returns c =
    let gs = c.args.groups.now in
    let at = c.conditions_start-at.ensures.value in
    let cells : vec_items c.in_ok-from_slice.field-0 ≡ take (start gs) gs =
    c.in_ok-from_slice.ensures.items ∙ ap (λ k. take k gs) at in
    let ks : vec_items c.in_ok-conditions_in.field-0 ≡ conditions (drop (start gs) gs) =
    c.in_ok-conditions_in.ensures ∙ ap conditions (take_rest gs c.conditions_start-at.result) ∙ ap (λ k. conditions (drop k gs)) at in
    cc
