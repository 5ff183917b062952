use Rattle.std.proofs.Common.{inl, inr}
use Rattle.std.proofs.lemmas.Result.{err_from_is_err_and}
use Rattle.terms.proofs.pattern.Pattern.read.Goals as goal

pub returns-in_err-check_cells : goal.returns-in_err-check_cells
returns-in_err-check_cells g c =
    let p = err_from_is_err_and c.from_residual.result c.from_residual.ensures.1 in
    rw (p.1, p.2) (inl c.in_err-check_cells.ensures)

pub returns-in_err-check_constraints : goal.returns-in_err-check_constraints
returns-in_err-check_constraints g c =
    let p = err_from_is_err_and c.from_residual-in_err-check_constraints.result c.from_residual-in_err-check_constraints.ensures.1 in
    rw (p.1, p.2) (inr (c.in_ok-check_cells.ensures, c.in_err-check_constraints.ensures))
