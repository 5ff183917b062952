use Rattle.std.proofs.Common.{◌≡◌, length}
use Rattle.requests.specs.Lines.{trim}
use Rattle.requests.proofs.lines.trimmed.Given as goal

abbrev pub invariant-loop-rest : goal.invariant-loop-rest
invariant-loop-rest l = trim l.rest ≡ trim l.line

abbrev pub decreases-loop-rest : goal.decreases-loop-rest
decreases-loop-rest l = length l.rest
