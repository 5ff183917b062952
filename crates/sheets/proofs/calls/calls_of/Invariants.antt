use Rattle.std.proofs.Common.{◌≡◌, map, take, vec_items}
use Rattle.std.specs.Option.{option_map}
use Rattle.runs.specs.Calls.{asked_by}
use Rattle.runs.specs.Runs.{present}
use Rattle.requests.specs.Layout.{asked_of}
use Rattle.sheets.proofs.calls.calls_of.Given as goal

abbrev pub invariant-loop-line : goal.invariant-loop-line
invariant-loop-line l = map asked_by (vec_items l.calls) ≡ present (map (option_map asked_of) (take l.line-index l.lines))
