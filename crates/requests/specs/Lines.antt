-- Lines of columns, in which a missing column is a blank.
use Rattle.std.specs.Prelude.{◌≡◌, ℕ, ◌-◌, cond, List, [], ◌∷◌, ◌++◌, length, take, Some, None, Option, ◌==◌, slice_index_or}
use Rattle.columns.specs.Columns.{blank, columns}

-- two lines have the same byte in every column: they differ at most in blanks at the end
abbrev pub Alike : List ℕ → List ℕ → Type 0
Alike x y = (i : ℕ) → slice_index_or x i 32 ≡ slice_index_or y i 32

-- the first w columns
abbrev pub front : ℕ → List ℕ → List ℕ
front w line = take w (line ++ blank w)

-- a text from the first of w columns on
abbrev pub left : ℕ → List ℕ → List ℕ
left w text = text ++ blank (w - length text)

-- a number in w columns, or blanks where there is none
abbrev pub field : ℕ → Option ℕ → List ℕ
field w None = blank w
field w (Some n) = columns w n

-- a byte before a line; a blank before nothing is left out
abbrev pub before : ℕ → List ℕ → List ℕ
before b [] = cond (b == 32) [] (b ∷ [])
before b (c ∷ line) = b ∷ (c ∷ line)

-- a line without the blanks at its end
unfoldable pub trim : List ℕ → List ℕ
trim [] = []
trim (b ∷ line) = before b (trim line)
