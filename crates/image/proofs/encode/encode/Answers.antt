use Rattle.std.proofs.Common.{◌+◌, ◌-◌, ◌*◌, length, get_or, take, drop, ap, ◌∙◌, subst, arith}
use Rattle.terms.specs.Fitting.{cells_of}
use Rattle.terms.specs.Rows.{Storable}
use Rattle.columns.specs.Columns.{blank, WritesCell}
use Rattle.image.proofs.Slots.{begins_blank, begins_more, begins_all, count_tail}
use Rattle.image.proofs.encode.encode.Goals as goal

pub loop-j-init : goal.loop-j-init
loop-j-init c = begins_blank c.write_blank.new.part (cells_of c.args.key.now) (c.write_blank.ensures ∙ ap blank c.requires)

pub loop-j-preserved : goal.loop-j-preserved
loop-j-preserved c =
    let cs = cells_of c.args.key.now in
    let j = c.loop-j.j in
    let line = c.loop-j.line in
    let value = c.cells-cell-items.ensures.value in
    let storable = subst Storable value c.cells-cell-items.ensures.storable in
    let few = storable.few in
    let l = ap length value in
    begins_more line cs j ((j * 10 + 10) - j * 10) (omega arith) (omega arith) (omega arith) storable c.loop-j.invariant (record { letter = 0; number = 0 }) c.write_cell.new.part c.write_cell.result (omega arith)
    (subst (λ ds. WritesCell (get_or ds j (record { letter = 0; number = 0 })) (take ((j * 10 + 10) - j * 10) (drop (j * 10) line)) c.write_cell.new.part c.write_cell.result) value c.write_cell.ensures)

pub returns : goal.returns
returns c =
    let cs = cells_of c.args.key.now in
    let value = c.cells-cell-items.ensures.value in
    let storable = subst Storable value c.cells-cell-items.ensures.storable in
    let few = storable.few in
    let l = ap length value in
    count_tail c.loop-j.line cs c.args.count.value c.write_number.new.part c.write_number.result (omega arith) c.args.count.few
    (begins_all c.loop-j.line cs c.loop-j.j c.loop-j.invariant (omega arith) (omega arith)) c.write_number.ensures
