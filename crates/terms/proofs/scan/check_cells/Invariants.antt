use Rattle.terms.specs.Shapes.{limit, variables}
use Rattle.terms.proofs.Scans.{Before}
use Rattle.terms.proofs.scan.check_cells.Given as goal

abbrev pub invariant-loop-place : goal.invariant-loop-place
invariant-loop-place g l =
    Before l.signature.arities l.signature.nought (g.K.Kind.means l.kind) (variables l.shape) (limit l.shape) l.cells l.place l.to_come
