use Rattle.std.proofs.Common.{arith, subst}
use Rattle.std.proofs.lemmas.Grind.{common_steps}
use Rattle.terms.specs.Rows.{Storable}
use Rattle.terms.proofs.Storing.{storable_row}
use Rattle.terms.proofs.row.Row.cells.Goals as goal

-- by whatever steps, the cells are those of the row
pub returns-clause-storable : goal.returns-clause-storable
returns-clause-storable c = subst Storable (grind (arith, common_steps)) (storable_row c.args.self.now)
