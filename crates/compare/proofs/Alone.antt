-- A row as a pattern without variables.
use Rattle.std.proofs.Common.{◌≡◌, ℕ, List, [], get_or, is_some, Some, None, Decides, Option, refl, subst, MatchOption}
use Rattle.std.proofs.lemmas.Bool.{false≢true}
use Rattle.kinds.specs.Meaning.{Meaning}
use Rattle.terms.specs.declared.cell.Cell.{Cell}
use Rattle.terms.specs.Fitting.{Description, Fits}
use Rattle.terms.specs.Proper.{RowCells}
use Rattle.unification.specs.Pairs.{Overlap}
use Rattle.unification.proofs.Fitting.{row_fits, only_row}
use Rattle.compare.specs.declared.sample.Common.{Common}
use Rattle.compare.specs.Answers.{CommonPart}

abbrev pub alone : List Cell → Description
alone row = record { cells = row; constraints = [] }

-- a row fits a pattern exactly where the two overlap
pub fits_told : (sig : List ℕ) (M : Meaning) (row : List Cell) (p : Description) → get_or sig 0 0 ≡ 0 → RowCells sig M row → (o : Option Common)
    → MatchOption o (Overlap sig M (alone row) p → ⊥) (λ c. CommonPart sig M (alone row) p c) → Decides (is_some o) (Fits sig M row p)
fits_told sig M row p z h None c = ((λ e. absurd (false≢true e)), (λ f. absurd (c (row, row_fits sig M row z h.term.fine, f))))
fits_told sig M row p z h (Some a) c =
    ((λ e. subst (λ (r : List Cell). Fits sig M r p) (only_row sig M row _ h.term.fine c.sampled.fits_left) c.sampled.fits_right), (λ f. refl))
