use Rattle.std.proofs.Common.{ℕ, ◌+◌, ◌≤◌, sym, subst, arith, rules}
use Rattle.std.proofs.lemmas.Result.{err_from_is_err_and}
use Rattle.terms.specs.declared.shape.Shape.{Shape}
use Rattle.terms.specs.declared.shape.Shape.TheVariants.{Row, Pattern}
use Rattle.terms.specs.Shapes.{limit, variables}
use Rattle.terms.proofs.Scans.{Before, before_start, before_more, refused_here, refused_end, proper_end}
use Rattle.terms.proofs.scan.check_cells.Goals as goal

some-limit : (s : Shape) → 1 ≤ limit s
some-limit Row = omega arith
some-limit Pattern = omega arith

pub loop-place-init : goal.loop-place-init
loop-place-init g c =
    before_start c.args.signature.now.arities c.args.signature.now.nought (g.K.Kind.means c.args.kind.now) (variables c.args.shape) (limit c.args.shape) c.args.cells.now (some-limit c.args.shape)

pub scan_cell-requires : goal.scan_cell-requires
scan_cell-requires g c = (search rules, at_most c.args.shape c.loop-place.invariant.room)
  where
    at_most : (s : Shape) → c.loop-place.place + c.loop-place.to_come ≤ limit s → c.loop-place.to_come ≤ 24
    at_most Row h = omega arith
    at_most Pattern h = omega arith

pub returns-in_err-to_come : goal.returns-in_err-to_come
returns-in_err-to_come g c =
    let p = err_from_is_err_and c.from_residual.result c.from_residual.ensures.1 in
    rw (p.1, p.2)
    (refused_here c.args.signature.now.arities c.args.signature.now.nought (g.K.Kind.means c.args.kind.now) (variables c.args.shape) (limit c.args.shape)
    c.args.cells.now c.loop-place.place c.loop-place.to_come c.loop-place.invariant _ c.loop-place-test.true c.in_err-to_come.field-0.0 c.in_err-to_come.ensures)

pub loop-place-preserved : goal.loop-place-preserved
loop-place-preserved g c =
    let e = c.in_ok-to_come.ensures in
    subst (λ (n : ℕ). Before c.args.signature.now.arities c.args.signature.now.nought (g.K.Kind.means c.args.kind.now) (variables c.args.shape) (limit c.args.shape)
    c.args.cells.now (c.loop-place.place + 1) n) (sym e.1)
    (before_more c.args.signature.now.arities c.args.signature.now.nought (g.K.Kind.means c.args.kind.now) (variables c.args.shape) (limit c.args.shape)
    c.args.cells.now c.loop-place.place c.loop-place.to_come c.loop-place.invariant _ c.loop-place-test.true e.0)

pub returns-then-to_come-gt0 : goal.returns-then-to_come-gt0
returns-then-to_come-gt0 g c =
    refused_end c.args.signature.now.arities c.args.signature.now.nought (g.K.Kind.means c.args.kind.now) (variables c.args.shape) (limit c.args.shape)
    c.args.cells.now c.loop-place.place c.loop-place.to_come c.loop-place.invariant (omega arith) c.if-to_come-gt0.true

pub returns : goal.returns
returns g c =
    proper_end c.args.signature.now.arities c.args.signature.now.nought (g.K.Kind.means c.args.kind.now) (variables c.args.shape) (limit c.args.shape)
    c.args.cells.now c.loop-place.place c.loop-place.to_come c.loop-place.invariant (omega arith) (omega arith)
