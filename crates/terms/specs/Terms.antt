-- Terms as their cells in order, a symbol before its arguments; and substitution.
use Rattle.std.specs.Prelude.{◌≡◌, ℕ, zero, suc, ◌+◌, ◌<◌, cond, List, [], ◌∷◌, ◌++◌, MatchBool, ◌==◌, slice_index}
use Rattle.std.specs.List.{AllByRecursion}
use Rattle.kinds.specs.Meaning.{Meaning, Value}
use Rattle.terms.specs.declared.cell.Cell.{Cell}

-- how many arguments follow a cell under the signature: those of a symbol, S (83), and none after any other cell
abbrev pub arity : List ℕ → Cell → ℕ
arity sig c = cond (c.letter == 83) (slice_index sig c.number) 0

-- of n terms to come, m are still to come after the cells
abbrev pub Leaves : List ℕ → ℕ → List Cell → ℕ → Type 0
Leaves sig n [] m = n ≡ m
Leaves sig zero (c ∷ cs) m = ⊥
Leaves sig (suc n) (c ∷ cs) m = Leaves sig (arity sig c + n) cs m

-- the cells are exactly n terms, one after another
abbrev pub Are : List ℕ → ℕ → List Cell → Type 0
Are sig n cs = Leaves sig n cs 0

-- a cell of a term with v variables: a symbol below 32, a variable, V (86), below v, or a value that the kind knows
abbrev pub Fine : Meaning → ℕ → Cell → Type 0
Fine M v c = MatchBool (c.letter == 83) (c.number < 32) (MatchBool (c.letter == 86) (c.number < v) (Value M c.letter c.number))

-- the first cell is a symbol
abbrev pub Starts : List Cell → Type 0
Starts [] = Unit {0}
Starts (c ∷ cs) = c.letter ≡ 83

-- one term with v variables that begins with a symbol
pub record Term (sig : List ℕ) (M : Meaning) (v : ℕ) (cs : List Cell) : Type 0 where
  pub whole : Are sig 1 cs
  pub starts : Starts cs
  pub fine : AllByRecursion (Fine M v) cs

-- a row, of any size: a term of symbols and known values that begins with a symbol
abbrev pub Row : List ℕ → Meaning → List Cell → Type 0
Row sig M cs = Term sig M 0 cs

-- a substitution gives each variable its cells
abbrev pub Subst : Type 0
Subst = ℕ → List Cell

-- what stands for a cell: a variable's cells, and for any other cell itself
abbrev pub image : Subst → Cell → List Cell
image σ c = cond (c.letter == 86) (σ c.number) (c ∷ [])

abbrev pub apply : Subst → List Cell → List Cell
apply σ [] = []
apply σ (c ∷ cs) = image σ c ++ apply σ cs
