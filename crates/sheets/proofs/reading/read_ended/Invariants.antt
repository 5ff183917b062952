use Rattle.std.proofs.Common.{map, take, vec_items}
use Rattle.std.specs.Option.{option_map}
use Rattle.requests.specs.Layout.{asked_of}
use Rattle.sheets.specs.Sheets.{ReadEach}
use Rattle.sheets.proofs.reading.read_ended.Given as goal

abbrev pub invariant-loop-line : goal.invariant-loop-line
invariant-loop-line l = ReadEach (map (λ x. x.now) (take l.line-index l.ended)) (map (option_map asked_of) (vec_items l.lines))
