use Rattle.std.proofs.Common.{cond, [], ◌∷◌, ◌++◌, vec_items, sym, ap, ◌∙◌}
use Rattle.std.specs.List.{flat_map}
use Rattle.requests.specs.Answers.{group_text, sample_text}
use Rattle.requests.proofs.Pushes.{onto}
use Rattle.requests.proofs.answer.push_sample.Goals as goal

pub returns-in_ok-push_mark : goal.returns-in_ok-push_mark
returns-in_ok-push_mark c =
    let start = vec_items c.args.out.now in
    let s = c.in-Some.sample in
    onto start (flat_map group_text s.cells) (cond s.more (43 ∷ []) []) c.in_ok-push_groups.ensures c.in_ok-push_mark.ensures
    ∙ ap (λ o. start ++ sample_text o) (sym c.in-Some.is)
