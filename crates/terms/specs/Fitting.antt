-- When a row fits a pattern.
use Rattle.std.specs.Prelude.{◌≡◌, ℕ, List, [], ◌∷◌}
use Rattle.std.specs.List.{AllByRecursion}
use Rattle.lists.specs.Lists.{items}
use Rattle.kinds.specs.Meaning.{Meaning}
use Rattle.kinds.specs.Common.{Met}
use Rattle.kinds.specs.declared.condition.Condition.{Condition}
use Rattle.terms.specs.declared.cell.Cell.{Cell}
use Rattle.terms.specs.declared.constraint.Constraint.{Constraint}
use Rattle.terms.specs.declared.pattern.Pattern.{Pattern}
use Rattle.terms.specs.declared.row.Row.{Row}
use Rattle.terms.specs.Terms.{Are, Fine, Subst, apply}

-- a pattern as it is meant: its cells, and its constraints on variables
pub record Description : Type 0 where
  pub cells : List Cell
  pub constraints : List Constraint

-- what the memory of a pattern, and of a row, holds
abbrev pub described : Pattern → Description
described p = record { cells = items p.cells; constraints = items p.constraints }

abbrev pub cells_of : Row → List Cell
cells_of r = items r.cells

-- one variable-free term of symbols and known values
abbrev pub Ground : List ℕ → Meaning → List Cell → Type 0
Ground sig M cs = Are sig 1 cs × AllByRecursion (Fine M 0) cs

-- the term is one value, of the condition's letter and in its set
abbrev pub Satisfies : Meaning → Condition → List Cell → Type 0
Satisfies M q t = (l c : ℕ) × (t ≡ record { letter = l; number = c } ∷ []) × Met M q l c

-- One choice of a variable-free term for each variable turns the pattern into the row and meets every constraint, also
-- those on variables that the cells lack.
pub record Fits (sig : List ℕ) (M : Meaning) (row : List Cell) (p : Description) : Type 0 where
  pub choice : Subst
  pub ground : (x : ℕ) → Ground sig M (choice x)
  pub makes : apply choice p.cells ≡ row
  pub meets : AllByRecursion (λ k. Satisfies M k.condition (choice k.variable)) p.constraints
