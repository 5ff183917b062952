use Rattle.std.proofs.Common.{◌≡◌, ◌+◌, ◌<◌, ◌≤◌, length, decimal}
use Rattle.columns.proofs.Writing.{front}
use Rattle.columns.proofs.number.width_of.Given as goal

abbrev pub invariant-loop-rest : goal.invariant-loop-rest
invariant-loop-rest l = (l.width + length (front l.rest) ≡ length (decimal l.n)) × (l.width + l.rest ≤ l.n + 1) × (0 < l.width)

abbrev pub decreases-loop-rest : goal.decreases-loop-rest
decreases-loop-rest l = l.rest
