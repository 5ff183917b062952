use Rattle.std.proofs.Common.{arith}
use Rattle.columns.proofs.Cells.{cell_written}
use Rattle.columns.proofs.cell.write_cell.Goals as goal

pub returns : goal.returns
returns c = cell_written c.args.part.now c.args.cell c.write_number.new.part c.write_number.result (omega arith) (omega arith) c.write_number.ensures
