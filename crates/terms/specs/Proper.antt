-- What is accepted: signatures, the cells of rows and patterns, and constraints.
use Rattle.std.specs.Prelude.{◌≡◌, ℕ, ◌<◌, ◌≤◌, List, length, slice_index_or}
use Rattle.std.specs.List.{AllByRecursion}
use Rattle.kinds.specs.Meaning.{Meaning, Known}
use Rattle.terms.specs.declared.cell.Cell.{Cell}
use Rattle.terms.specs.declared.constraint.Constraint.{Constraint}
use Rattle.terms.specs.Terms.{Term}
use Rattle.terms.specs.Fitting.{Description}

-- arities of 0 to 7 for the symbols, of which there are at most 32; symbol 0 has arity 0
pub record Arities (ns : List ℕ) : Type 0 where
  pub few : length ns ≤ 32
  pub nought : slice_index_or ns 0 0 ≡ 0
  pub small : AllByRecursion (λ n. n ≤ 7) ns

-- a term of at most `limit` cells with v variables
pub record SmallTerm (sig : List ℕ) (M : Meaning) (v limit : ℕ) (cs : List Cell) : Type 0 where
  pub term : Term sig M v cs
  pub few : length cs ≤ limit

-- a row in a call or a store: at most 12 cells
abbrev pub RowCells : List ℕ → Meaning → List Cell → Type 0
RowCells sig M cs = SmallTerm sig M 0 12 cs

-- the cells of a pattern: at most 24, with the variables 0 to 7
abbrev pub PatternCells : List ℕ → Meaning → List Cell → Type 0
PatternCells sig M cs = SmallTerm sig M 8 24 cs

-- a condition that is known, on a variable below 8
abbrev pub Constrains : Meaning → Constraint → Type 0
Constrains M k = (k.variable < 8) × Known M k.condition

-- at most eight constraints
pub record Constraints (M : Meaning) (ks : List Constraint) : Type 0 where
  pub few : length ks ≤ 8
  pub each : AllByRecursion (Constrains M) ks

pub record ProperPattern (sig : List ℕ) (M : Meaning) (p : Description) : Type 0 where
  pub cells : PatternCells sig M p.cells
  pub constraints : Constraints M p.constraints
