use Rattle.std.proofs.Common.{◌≡◌, ◌++◌, take, vec_items}
use Rattle.std.specs.List.{flat_map}
use Rattle.columns.specs.Columns.{cell_text}
use Rattle.requests.proofs.push.push_cells.Given as goal

abbrev pub invariant-loop-cell : goal.invariant-loop-cell
invariant-loop-cell l = vec_items l.out ≡ vec_items l.initial.out ++ flat_map cell_text (take l.cell-index l.cells)
