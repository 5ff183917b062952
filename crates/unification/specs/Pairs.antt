-- Two patterns with variables of their own: those of the right one become 8 to 15.
use Rattle.std.specs.Prelude.{◌≡◌, ℕ, ◌+◌, ◌<◌, cond, List, ◌++◌, map, length, ◌==◌}
use Rattle.kinds.specs.Meaning.{Meaning}
use Rattle.terms.specs.declared.cell.Cell.{Cell}
use Rattle.terms.specs.declared.constraint.Constraint.{Constraint}
use Rattle.terms.specs.Terms.{Subst}
use Rattle.terms.specs.Fitting.{Description, Fits}
use Rattle.unification.specs.Fronts.{at}
use Rattle.unification.specs.Unifiers.{Assign, Unifies}

-- a cell, and a constraint, of the right pattern
abbrev pub shifted : Cell → Cell
shifted c = cond (c.letter == 86) (record { letter = c.letter; number = c.number + 8 }) c

abbrev pub shifted_constraint : Constraint → Constraint
shifted_constraint k = record { variable = k.variable + 8; condition = k.condition }

-- the cells of both, one behind the other; and the constraints
abbrev pub pair : List Cell → List Cell → List Cell
pair left right = left ++ map shifted right

abbrev pub both_constraints : List Constraint → List Constraint → List Constraint
both_constraints left right = left ++ map shifted_constraint right

-- each variable of the cells is below n
abbrev pub Below : ℕ → List Cell → Type 0
Below n p = (k : ℕ) → k < length p → (at p k).letter ≡ 86 → (at p k).number < n

abbrev pub NoUnifier : List ℕ → List Cell → List Cell → Type 0
NoUnifier sig left right = (σ : Subst) → Assign sig σ → Unifies σ left (map shifted right) → ⊥

-- some row, of any size, fits both
abbrev pub Overlap : List ℕ → Meaning → Description → Description → Type 0
Overlap sig M left right = (row : List Cell) × Fits sig M row left × Fits sig M row right
