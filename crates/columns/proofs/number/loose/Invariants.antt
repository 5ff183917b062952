use Rattle.std.proofs.Common.{◌≡◌, map, take}
use Rattle.std.specs.Int.Digits.{number_from_digits}
use Rattle.columns.specs.Steps.{worth}
use Rattle.columns.proofs.number.loose.Given as goal

abbrev pub invariant-loop-b : goal.invariant-loop-b
invariant-loop-b l = l.n ≡ number_from_digits 10 (take l.b-index (map worth l.part))
