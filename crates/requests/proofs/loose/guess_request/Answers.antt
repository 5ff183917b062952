use Rattle.std.proofs.Common.{get_or, vec_items, ap, ◌∙◌}
use Rattle.std.proofs.lemmas.Result.{IfOk-weaker}
use Rattle.requests.specs.Lines.{front}
use Rattle.requests.proofs.Decoded.{asked_back}
use Rattle.requests.proofs.loose.guess_request.Goals as goal

pub returns : goal.returns
returns c =
    IfOk-weaker c.request_in.result _ _
    (λ v e a s. e
    ∙ asked_back c.args.line.now c.guess.result c.number_in-first.result c.number_in-second.result c.byte_at.result (vec_items c.in_ok-groups.groups)
    c.guess.ensures
    (λ k h e. c.number_in-first.ensures k h (ap (front 7) c.after-2.ensures ∙ e))
    (λ k h e. c.number_in-second.ensures k h (ap (front 7) c.after-3.ensures ∙ e))
    c.byte_at.ensures
    (λ hs short e. c.in_ok-groups.ensures hs short (λ i. ap (λ t. get_or t i 32) c.after.ensures ∙ e i))
    a s)
    c.request_in.ensures
