use Rattle.std.proofs.Common.{◌^◌, ◌<◌, length, take, drop, sym, ap, ◌∙◌, subst, arith}
use Rattle.columns.specs.Columns.{columns}
use Rattle.columns.proofs.Numbers.{columns_below}
use Rattle.columns.proofs.Cells.{cell_from, cell_tail, cell_length, tail_length}
use Rattle.columns.proofs.cell.read_cell.Goals as goal

pub returns-then-part-ne10 : goal.returns-then-part-ne10
returns-then-part-ne10 c cell short e = c.if-part-ne10.true (ap length e ∙ cell_length cell short)

pub returns-in_err-read_number : goal.returns-in_err-read_number
returns-in_err-read_number c =
    rw c.from_residual.ensures
    (λ cell short e.
    let part = c.args.part.now in
    let l = tail_length part c.if-part-ne10.false in
    c.in_err-read_number.ensures cell.number (omega arith) (cell_tail part cell short e ∙ ap (λ m. columns m cell.number) (sym l)))

pub returns : goal.returns
returns c =
    let part = c.args.part.now in
    let n = c.in_ok-read_number.field-0 in
    let l = tail_length part c.if-part-ne10.false in
    let e = c.in_ok-read_number.ensures in
    (cell_from part c.if-part-ne10.false n (e ∙ ap (λ m. columns m n) l), subst (λ m. n < 10 ^ m) l (columns_below (take 9 (drop 1 part)) n (omega arith) e))
