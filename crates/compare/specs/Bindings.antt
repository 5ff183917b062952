-- What sixteen bindings say: replacements, one after another.
use Rattle.std.specs.Prelude.{ℕ, ◌+◌, ◌<◌, List, [], ◌∷◌, length, Some, None, Option}
use Rattle.terms.specs.declared.cell.Cell.{Cell}
use Rattle.terms.specs.Terms.{Subst}
use Rattle.terms.specs.Fitting.{Description}
use Rattle.unification.specs.Fronts.{part}
use Rattle.unification.specs.Unifiers.{Replacement, sequence}
use Rattle.unification.specs.Pairs.{pair}
use Rattle.compare.specs.declared.binding.Side.{Side}
use Rattle.compare.specs.declared.binding.Side.TheVariants.{Left, Right}
use Rattle.compare.specs.declared.binding.Variable.{Variable}
use Rattle.compare.specs.declared.binding.TermPlace.{TermPlace}
use Rattle.compare.specs.declared.binding.Binding.{Binding}

-- the right side's begin at n
abbrev pub start : Side → ℕ → ℕ
start Left n = 0
start Right n = n

-- the right pattern's variables are 8 to 15
abbrev pub joint : Variable → ℕ
joint v = start v.side 8 + v.number

-- the cells of both patterns lie one behind the other, n of them the left one's
abbrev pub place_of : ℕ → TermPlace → ℕ
place_of n t = start t.side n + t.cell

-- a cell of its side's pattern, where the left one has n cells and the right one m
abbrev pub CellWithin : ℕ → ℕ → Side → ℕ → Type 0
CellWithin n m Left k = k < n
CellWithin n m Right k = k < m

-- a binding names one of its pattern's eight variables and one of its pattern's cells
abbrev pub WithinPatterns : ℕ → ℕ → Option Binding → Type 0
WithinPatterns n m None = Unit {0}
WithinPatterns n m (Some b) = (b.variable.number < 8) × CellWithin n m b.term.side b.term.cell

-- each binding as the replacement of a variable by a term
abbrev pub replacements : List ℕ → List Cell → ℕ → List (Option Binding) → List Replacement
replacements sig cells n [] = []
replacements sig cells n (None ∷ bs) = replacements sig cells n bs
replacements sig cells n (Some b ∷ bs) = record { name = joint b.variable; term = part sig cells (place_of n b.term) 1 } ∷ replacements sig cells n bs

-- the bindings applied in sequence
abbrev pub unifier : List ℕ → Description → Description → List (Option Binding) → Subst
unifier sig left right bs = sequence (replacements sig (pair left.cells right.cells) (length left.cells) bs)
