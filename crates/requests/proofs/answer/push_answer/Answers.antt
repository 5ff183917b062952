use Rattle.std.proofs.Common.{◌++◌, vec_items}
use Rattle.columns.specs.Columns.{columns}
use Rattle.requests.specs.Answers.{sample_text, word_field}
use Rattle.requests.specs.Lines.{field}
use Rattle.requests.proofs.Pushes.{onto}
use Rattle.requests.proofs.answer.push_answer.Goals as goal

pub returns : goal.returns
returns c =
    let l = c.args.line.now in
    let W = word_field l.word in
    let N = columns 7 l.refusal in
    let F = field 7 l.first in
    let S = field 11 l.second in
    let R = sample_text l.sample in
    onto (vec_items c.args.out.now) W (N ++ (F ++ (S ++ R))) c.in_ok-push_word.ensures
    (onto (vec_items c.push_word.new.out) N (F ++ (S ++ R)) c.in_ok-push_columns.ensures
    (onto (vec_items c.push_columns.new.out) F (S ++ R) c.in_ok-push_field.ensures
    (onto (vec_items c.push_field.new.out) S R c.in_ok-push_field-2.ensures c.in_ok-push_sample.ensures)))
