-- The first cells of a row.
use Rattle.std.specs.Prelude.{◌≡◌, ℕ, ◌+◌, ◌<◌, ◌≤◌, min, List, [], ◌∷◌, ◌++◌, length, take, drop}
use Rattle.terms.specs.declared.cell.Cell.{Cell}
use Rattle.terms.specs.Terms.{Subst}
use Rattle.unification.specs.Fronts.{at}
use Rattle.unification.specs.Sheets.{entry}

-- σ has the fill's one cell at each free variable
abbrev pub Fills : List Cell → List Cell → List Cell → Subst → Type 0
Fills cells sheet fills σ = (y : ℕ) → y < 16 → length cells ≤ entry sheet y → σ y ≡ at fills y ∷ []

-- the cells xs are written from a place on, as far as 12 go; r counts what is then there, 13 for more
pub record Wrote (xs before behind : List Cell) (place r : ℕ) : Type 0 where
  pub long : length behind ≡ length before
  pub count : r ≡ min 13 (place + length xs)
  pub cells : take (min 12 (place + length xs)) behind ≡ take 12 (take place before ++ xs)
  pub rest : drop (min 12 (place + length xs)) behind ≡ drop (min 12 (place + length xs)) before
