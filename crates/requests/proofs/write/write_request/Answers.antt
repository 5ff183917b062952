use Rattle.std.proofs.Common.{[], ◌∷◌, ◌++◌, vec_items, ap, ◌∙◌}
use Rattle.std.specs.List.{flat_map}
use Rattle.columns.specs.Columns.{cell_text}
use Rattle.requests.specs.Layout.{asked_of, three, word_text}
use Rattle.requests.specs.Lines.{field}
use Rattle.requests.proofs.Pushes.{onto, line_text}
use Rattle.requests.proofs.write.write_request.Goals as goal

pub returns : goal.returns
returns c =
    let start = vec_items c.args.out.now in
    let l = c.line-line.result in
    let F = field 7 l.first in
    let S = field 7 l.second in
    let R = l.right ∷ [] in
    let C = flat_map cell_text l.cells.now in
    let K = flat_map (λ k. flat_map cell_text (three k)) l.constraints.now in
    onto start (word_text l.word) (F ++ (S ++ (R ++ (C ++ K)))) (c.in_ok-extend_from_slice.ensures.items ∙ ap (λ t. start ++ t) c.bytes.ensures)
    (onto (vec_items c.extend_from_slice.new.self) F (S ++ (R ++ (C ++ K))) c.in_ok-push_field.ensures
    (onto (vec_items c.push_field.new.out) S (R ++ (C ++ K)) c.in_ok-push_field-2.ensures
    (onto (vec_items c.push_field-2.new.out) R (C ++ K) c.in_ok-push.ensures.items
    (onto (vec_items c.push.new.self) C K c.in_ok-push_cells.ensures c.in_ok-push_constraints.ensures))))
    ∙ ap (λ t. start ++ t) (line_text (asked_of c.args.request.now) l c.line-line.ensures)
