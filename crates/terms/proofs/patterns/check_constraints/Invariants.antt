use Rattle.std.proofs.Common.{take}
use Rattle.terms.specs.Proper.{Constraints}
use Rattle.terms.proofs.patterns.check_constraints.Given as goal

abbrev pub invariant-loop-place : goal.invariant-loop-place
invariant-loop-place g l = Constraints (g.K.Kind.means l.kind) (take l.place l.constraints)
