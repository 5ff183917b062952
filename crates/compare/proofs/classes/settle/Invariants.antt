use Rattle.compare.specs.Settling.{Settled}
use Rattle.compare.proofs.classes.settle.Given as goal

abbrev pub invariant-loop-constraint : goal.invariant-loop-constraint
invariant-loop-constraint g l = Settled (g.K.Kind.means l.kind) l.cells l.roots l.constraints l.fills l.constraint-index
