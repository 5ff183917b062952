use Rattle.terms.specs.Proper.{RowCells}
use Rattle.image.specs.Open.{GoodTo}
use Rattle.image.proofs.open.check_lines.Given as goal

abbrev pub invariant-loop-k : goal.invariant-loop-k
invariant-loop-k g l = GoodTo (RowCells l.signature.arities (g.K.Kind.means l.kind)) l.image l.k
