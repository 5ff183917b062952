use Rattle.std.proofs.Common.{◌≡◌, ◌++◌, map, drop, vec_items}
use Rattle.std.specs.Option.{option_map}
use Rattle.std.specs.Slice.Iter.{iter_rest}
use Rattle.requests.specs.Layout.{asked_of}
use Rattle.sheets.specs.Answers.{answer_lines}
use Rattle.sheets.proofs.writing.write_lines.Given as goal

abbrev pub invariant-loop-line : goal.invariant-loop-line
invariant-loop-line l =
    vec_items l.out ++ answer_lines (map (option_map asked_of) (drop l.line-index l.lines)) (iter_rest l.answers) (iter_rest l.samples)
    ≡ answer_lines (map (option_map asked_of) l.lines) l.fn.answers l.fn.samples
