use Rattle.std.proofs.Common.{arith}
use Rattle.columns.proofs.Numbers.{columns_same, columns_unblank}
use Rattle.columns.proofs.Cells.{cell_same, cell_marked}
use Rattle.columns.proofs.columns_stand.Goals as goal

pub returns : goal.returns
returns c = record {
  number = λ w m n h k e. columns_same w m n (omega arith) (omega arith) e;
  cell = cell_same;
  number_blank = λ w n h e. columns_unblank w n (omega arith) e;
  cell_blank = cell_marked;
}
