use Rattle.std.proofs.Common.{vec_items}
use Rattle.columns.specs.Columns.{cell_text}
use Rattle.requests.proofs.Pushes.{joined_next, joined_last}
use Rattle.requests.proofs.push.push_cells.Goals as goal

pub loop-cell-preserved : goal.loop-cell-preserved
loop-cell-preserved c =
    joined_next cell_text (vec_items c.args.out.now) c.args.cells.now c.loop-cell.cell-index _ c.loop-cell-test.true c.loop-cell.invariant c.in_ok-push_cell.ensures

pub returns : goal.returns
returns c = joined_last cell_text (vec_items c.args.out.now) c.args.cells.now c.loop-cell.cell-index c.loop-cell-test.false c.loop-cell.invariant
