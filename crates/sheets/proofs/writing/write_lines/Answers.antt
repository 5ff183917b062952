use Rattle.std.proofs.Common.{◌+◌, ◌++◌, map, vec_items, sym, ap, ◌∙◌, subst, arith}
use Rattle.std.specs.Option.{option_map}
use Rattle.std.specs.Slice.Iter.{iter_rest}
use Rattle.requests.specs.Layout.{asked_of}
use Rattle.sheets.specs.Answers.{answer_lines, written, line_of}
use Rattle.sheets.proofs.Writings.{Left, left_none, left_some, left_skip, left_end, both, spent}
use Rattle.sheets.proofs.writing.write_lines.Goals as goal
use Rattle.sheets.proofs.writing.write_lines.Goals.{in-None+in_ok-write_answer-in-None, in-Some+in-Some-zip+in_ok-write_answer-in-Some, in-Some+in_default}

pub loop-line-preserved : goal.loop-line-preserved
loop-line-preserved c =
    let xs = c.args.lines.now in
    let whole = answer_lines (map (option_map asked_of) xs) c.args.answers.now c.args.samples.now in
    let i = c.loop-line.line-index in
    let d = c.line-item.result in
    let out = vec_items c.loop-line.out in
    let out' = vec_items c.match-line.out in
    let rs = iter_rest c.loop-line.answers in
    let ss = iter_rest c.loop-line.samples in
    elim c.match-line.branch [
      | in-None+in_ok-write_answer-in-None w ↦
          subst (Left (option_map asked_of) xs whole out' (i + 1) (iter_rest c.match-line.answers)) (ap iter_rest (sym w.samples-is))
          (subst (λ l. Left (option_map asked_of) xs whole out' (i + 1) l ss) (ap iter_rest (sym w.answers-is))
          (left_none (option_map asked_of) xs whole out i d rs ss (omega arith) c.loop-line.invariant out'
          (ap (option_map asked_of) (sym c.line-item.is ∙ w.in-None.is)) (ap vec_items w.out-is ∙ w.in_ok-write_answer-in-None.ensures)))
      | in-Some+in-Some-zip+in_ok-write_answer-in-Some w ↦
          let answers = w.next.new.self in
          let samples = w.next-in-Some.new.self in
          let n = both c.loop-line.answers answers c.loop-line.samples samples w.next.result w.next-in-Some.result _ w.next.ensures.steps w.next-in-Some.ensures.steps (sym w.zip.ensures ∙ w.in-Some-zip.is) in
          subst (Left (option_map asked_of) xs whole out' (i + 1) (iter_rest c.match-line.answers)) (ap iter_rest (sym w.samples-is))
          (subst (λ l. Left (option_map asked_of) xs whole out' (i + 1) l (iter_rest samples)) (ap iter_rest (sym w.answers-is))
          (left_some (option_map asked_of) xs whole out i d rs ss (omega arith) c.loop-line.invariant out' (asked_of w.in-Some.request) w.in-Some-zip.answer.now w.in-Some-zip.sample.now (iter_rest answers) (iter_rest samples)
          (ap (option_map asked_of) (sym c.line-item.is ∙ w.in-Some.is)) n.0 n.1
          (ap vec_items w.out-is
          ∙ w.in_ok-write_answer-in-Some.ensures
          ∙ ap (λ l. out ++ written l) (w.answer_line-told.ensures ∙ ap (λ k. line_of k w.in-Some-zip.answer.now w.in-Some-zip.sample.now) w.word.ensures))))
      | in-Some+in_default w ↦
          let answers = w.next.new.self in
          let samples = w.next-in-Some.new.self in
          let n = spent c.loop-line.answers answers c.loop-line.samples samples w.next.result w.next-in-Some.result w.next.ensures.steps w.next-in-Some.ensures.steps (sym w.zip.ensures ∙ w.in_default.is) in
          subst (λ v. Left (option_map asked_of) xs whole (vec_items v) (i + 1) (iter_rest c.match-line.answers) (iter_rest c.match-line.samples)) (sym w.out-is)
          (subst (Left (option_map asked_of) xs whole out (i + 1) (iter_rest c.match-line.answers)) (ap iter_rest (sym w.samples-is))
          (subst (λ l. Left (option_map asked_of) xs whole out (i + 1) l (iter_rest samples)) (ap iter_rest (sym w.answers-is))
          (left_skip (option_map asked_of) xs whole out i d rs ss (omega arith) c.loop-line.invariant (asked_of w.in-Some.request) (iter_rest answers) (iter_rest samples)
          (ap (option_map asked_of) (sym c.line-item.is ∙ w.in-Some.is)) n.0 n.1)))
    ]

pub returns : goal.returns
returns c =
    let xs = c.args.lines.now in
    let whole = answer_lines (map (option_map asked_of) xs) c.args.answers.now c.args.samples.now in
    left_end (option_map asked_of) xs whole (vec_items c.loop-line.out) c.loop-line.line-index (iter_rest c.loop-line.answers) (iter_rest c.loop-line.samples) (omega arith) c.loop-line.invariant
