-- What a line shows is one thing at most, and what can be laid out is shown.
use Rattle.std.specs.Prelude.{◌≡◌, ℕ, ◌-◌, ◌<◌, List, ◌++◌, length, ◌≢◌, slice_index_or}
use Rattle.std.specs.List.{AllByRecursion}
use Rattle.columns.specs.Columns.{blank}
use Rattle.requests.specs.Lines.{Alike, trim}
use Rattle.requests.specs.Layout.{Ask, Laid, Shows, text}

pub record OneRequest : Type 0 where
  -- no two asks are shown by one line
  pub one : (line : List ℕ) (a b : Ask) → Shows line a → Shows line b → a ≡ b
  -- what there is room for is shown by its own text
  pub shown : (a : Ask) → Laid a → Shows (text a) a
  -- and that text is one line, without a newline
  pub one_line : (a : Ask) → Laid a → AllByRecursion (λ b. b ≢ 10) (text a)
  -- lines are alike exactly when they differ in blanks at the end
  pub alike : (x y : List ℕ) → Alike x y → (i j : ℕ) × (x ++ blank i ≡ y ++ blank j)
  pub blanks : (x y : List ℕ) (i j : ℕ) → x ++ blank i ≡ y ++ blank j → Alike x y
  -- a line without the blanks at its end is like it, and ends in no blank
  pub trimmed : (line : List ℕ) → Alike (trim line) line
  pub marked : (line : List ℕ) → 0 < length (trim line) → slice_index_or (trim line) (length (trim line) - 1) 32 ≢ 32
