-- Rows that fit a proper pattern are proper.
use Rattle.std.proofs.Common.{ℕ, ◌≤◌, List, [], ◌∷◌, ◌++◌, length, sym, subst, arith}
use Rattle.kinds.specs.Meaning.{Meaning}
use Rattle.terms.specs.declared.cell.Cell.{Cell}
use Rattle.terms.specs.Terms.{Are, Starts, Subst, apply}
use Rattle.terms.specs.Fitting.{Description, Fits}
use Rattle.terms.specs.Proper.{RowCells, ProperPattern}
use Rattle.unification.proofs.Theory.{image_fix}
use Rattle.unification.proofs.Cells.{grounded, steady}

-- a symbol stays where it is
starts : (sig : List ℕ) (σ : Subst) (cs : List Cell) → Are sig 1 cs → Starts cs → Starts (apply σ cs)
starts sig σ [] a s = absurd (omega arith)
starts sig σ (c ∷ cs) a s =
    subst (λ (l : List Cell). Starts (l ++ apply σ cs)) (sym (image_fix σ c (λ v. omega arith))) s

pub fits_row : (sig : List ℕ) (M : Meaning) (p : Description) (row : List Cell) → ProperPattern sig M p → length row ≤ 12 → Fits sig M row p → RowCells sig M row
fits_row sig M p row h few f =
    let g = grounded sig M f.choice f.ground p.cells h.cells.term.whole (steady M 8 p.cells h.cells.term.fine) in
    subst (RowCells sig M) f.makes (record {
      term = record { whole = g.0; starts = starts sig f.choice p.cells h.cells.term.whole h.cells.term.starts; fine = g.1 };
      few = subst (λ l. length l ≤ 12) (sym f.makes) few;
    })
