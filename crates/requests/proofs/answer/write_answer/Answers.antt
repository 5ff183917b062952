use Rattle.std.proofs.Common.{◌≡◌, [], ◌∷◌, length, take, drop, vec_items, sym, ap, ◌∙◌}
use Rattle.requests.specs.Answers.{answer_text}
use Rattle.requests.specs.Lines.{trim}
use Rattle.requests.proofs.Alike.{trim_front}
use Rattle.requests.proofs.Pushes.{onto, cut_back}
use Rattle.requests.proofs.answer.write_answer.Goals as goal

pub returns : goal.returns
returns c =
    let start = vec_items c.args.out.now in
    let text = answer_text c.args.line.now in
    let from = c.len-from.result in
    let l : length start ≡ from = sym (c.len-from.ensures ∙ c.args.out.now.ok.0) in
    let part = c.after.ensures ∙ ap (drop from) c.deref.ensures.value in
    let p = c.after.result.now in
    let n : length c.trimmed-len.result.now ≡ length (trim p) = ap length c.trimmed-len.ensures in
    let cut = cut_back start text (vec_items c.push_answer.new.out) p from (length c.trimmed-len.result.now) c.in_ok-push_answer.ensures l part (ap (λ m. take m p) n ∙ trim_front p) in
    onto start (trim text) (10 ∷ []) (c.truncate.ensures.items ∙ cut) c.in_ok-push.ensures.items
