use Rattle.std.proofs.Common.{◌≡◌, Decides, subst₂}
use Rattle.std.proofs.lemmas.Slice.Eq.{slice_eq-Decides}
use Rattle.terms.specs.Rows.{cell_eq_decides}
use Rattle.terms.proofs.rows.RowPartialEq.eq.Goals as goal

pub returns-clause-decides : goal.returns-clause-decides
returns-clause-decides c =
    subst₂ (λ xs ys. Decides c.eq.result (xs ≡ ys)) c.cells.ensures.value c.cells-2.ensures.value (slice_eq-Decides cell_eq_decides _ _ _ c.eq.ensures)
