use Rattle.std.proofs.Common.{sym, refl, ◌∙◌, arith}
use Rattle.std.proofs.lemmas.Bool.{both_ways}
use Rattle.std.proofs.lemmas.Result.{err_from_is_err_and}
use Rattle.terms.specs.Fitting.{cells_of}
use Rattle.image.proofs.Decided.{key_some, mark_first, tail_first, end_first, good_first, cell_refused, mark_row, tail_none, end_row, good_row}
use Rattle.image.proofs.decode.decode.Goals as goal

pub returns-in_err-check_blank : goal.returns-in_err-check_blank
returns-in_err-check_blank g c =
    let p = err_from_is_err_and c.from_residual.result c.from_residual.ensures.1 in
    rw (p.1, p.2)
    (mark_first _ (g.met.K.Kind.sound c.args.kind.now) c.args.signature.now.arities c.args.line.now (omega arith) _ _ c.as_slice-cells.ensures c.read_cells-found.ensures
    c.in_default.ensures _ c.in_err-check_blank.ensures)

pub returns-then-not-is_blank : goal.returns-then-not-is_blank
returns-then-not-is_blank g c =
    tail_first _ (g.met.K.Kind.sound c.args.kind.now) c.args.signature.now.arities c.args.line.now (omega arith) _ _ c.as_slice-cells.ensures c.read_cells-found.ensures
    c.in_default.ensures c.in_ok-check_blank.ensures (λ e. both_ways c.is_blank.result c.if-not-is_blank.true (c.is_blank.ensures.1 e))

pub returns-then-line-ne10 : goal.returns-then-line-ne10
returns-then-line-ne10 g c =
    end_first _ (g.met.K.Kind.sound c.args.kind.now) c.args.signature.now.arities c.args.line.now (omega arith) _ _ c.as_slice-cells.ensures c.read_cells-found.ensures
    c.in_default.ensures c.in_ok-check_blank.ensures (c.is_blank.ensures.0 c.if-not-is_blank.false) c.if-line-ne10.true

pub returns-in_default : goal.returns-in_default
returns-in_default g c = (
  tt,
  good_first _ (g.met.K.Kind.sound c.args.kind.now) c.args.signature.now.arities c.args.line.now (omega arith) _ _ c.as_slice-cells.ensures c.read_cells-found.ensures
      c.in_default.ensures c.in_ok-check_blank.ensures (c.is_blank.ensures.0 c.if-not-is_blank.false) c.if-line-ne10.false,
)

pub returns-in_err-check_cells : goal.returns-in_err-check_cells
returns-in_err-check_cells g c =
    let p = err_from_is_err_and c.from_residual-in_err-check_cells.result c.from_residual-in_err-check_cells.ensures.1 in
    rw p.1
    (cell_refused _ (g.met.K.Kind.sound c.args.kind.now) c.args.signature.now.arities c.args.line.now (omega arith) _ _ c.as_slice-cells.ensures c.read_cells-found.ensures
    c.in_err-check_cells.field-0.0 p.0.field (key_some c.in-Some.key _ c.in-Some.ensures) c.in_err-check_cells.ensures p.2)

pub returns-in_err-check_blank-2 : goal.returns-in_err-check_blank-2
returns-in_err-check_blank-2 g c =
    let p = err_from_is_err_and c.from_residual-in_err-check_blank-2.result c.from_residual-in_err-check_blank-2.ensures.1 in
    rw (p.1, p.2)
    (mark_row _ (g.met.K.Kind.sound c.args.kind.now) c.args.signature.now.arities c.args.line.now (omega arith) _ _ c.as_slice-cells.ensures c.read_cells-found.ensures
    c.in_ok-check_cells.ensures _ c.in_err-check_blank-2.ensures)

pub returns-in_err-count : goal.returns-in_err-count
returns-in_err-count g c =
    let p = err_from_is_err_and c.from_residual-in_err-count.result c.from_residual-in_err-count.ensures.1 in
    rw (p.1, p.2)
    (tail_none _ (g.met.K.Kind.sound c.args.kind.now) c.args.signature.now.arities c.args.line.now (omega arith) _ _ c.as_slice-cells.ensures c.read_cells-found.ensures
    c.in_ok-check_cells.ensures c.in_ok-check_blank-2.ensures c.read_count.result c.read_count.ensures (record { field = 12 }) _ (sym c.ok_or.ensures.value ∙ c.in_err-count.was) refl)

pub returns-then-line-ne10-2 : goal.returns-then-line-ne10-2
returns-then-line-ne10-2 g c =
    end_row _ (g.met.K.Kind.sound c.args.kind.now) c.args.signature.now.arities c.args.line.now (omega arith) _ _ c.as_slice-cells.ensures c.read_cells-found.ensures
    c.in_ok-check_cells.ensures c.in_ok-check_blank-2.ensures c.read_count.result c.read_count.ensures c.in_ok-count.count (record { field = 12 }) (sym c.ok_or.ensures.value ∙ c.in_ok-count.was) c.if-line-ne10-2.true

pub returns : goal.returns
returns g c =
    good_row _ (g.met.K.Kind.sound c.args.kind.now) c.args.signature.now.arities c.args.line.now (omega arith) _ _ c.as_slice-cells.ensures c.read_cells-found.ensures
    c.in_ok-check_cells.ensures c.in_ok-check_blank-2.ensures c.read_count.result c.read_count.ensures c.in_ok-count.count (record { field = 12 }) (sym c.ok_or.ensures.value ∙ c.in_ok-count.was)
    (cells_of c.in-Some.key) c.in-Some.ensures c.if-line-ne10-2.false
