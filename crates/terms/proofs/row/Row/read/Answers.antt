use Rattle.std.proofs.Common.{◌<◌, List, length, sym, ap, ◌∙◌, subst}
use Rattle.std.proofs.lemmas.Result.{err_from_is_err_and}
use Rattle.terms.specs.declared.cell.Cell.{Cell}
use Rattle.terms.specs.Short.{all_short}
use Rattle.terms.proofs.Storing.{row_storable, short_from}
use Rattle.terms.proofs.row.Row.read.Goals as goal

pub returns-in_err-check_cells : goal.returns-in_err-check_cells
returns-in_err-check_cells g c =
    let p = err_from_is_err_and c.from_residual.result c.from_residual.ensures.1 in
    rw (p.1, p.2) c.in_err-check_cells.ensures

pub invariant_of-result : goal.invariant_of-result
invariant_of-result g c =
    let s = row_storable (g.K.Kind.means c.args.kind.now) (g.met.K.Kind.sound c.args.kind.now) c.args.signature.now.arities c.args.cells.now c.in_ok-check_cells.ensures in
    record {
      some = subst (λ (cs : List Cell). 0 < length cs) (sym c.of.ensures) s.some;
      short = ap all_short c.of.ensures ∙ short_from c.args.cells.now s.short;
    }
