-- Numbers and cells in fixed columns.
use Rattle.std.specs.Prelude.{◌≡◌, ℕ, ◌-◌, ◌^◌, ◌<◌, ◌≤◌, List, ◌∷◌, ◌++◌, length, replicate, Some, None, Ok, Err, decimal, Option, Result, ◌≢◌}
use Rattle.terms.specs.declared.cell.Cell.{Cell}
use Rattle.columns.specs.declared.number.NoRoom.{NoRoom}

-- n spaces
abbrev pub blank : ℕ → List ℕ
blank n = replicate n 32

-- a text to the right of w columns, after spaces
unfoldable pub pad : ℕ → List ℕ → List ℕ
pad w text = blank (w - length text) ++ text

-- a number in w columns: its decimal, without leading zeros, to the right
unfoldable pub columns : ℕ → ℕ → List ℕ
columns w n = pad w (decimal n)

-- the number below 2 ^ 32 that the columns show, or absent where they show none
abbrev pub Reads : List ℕ → Option ℕ → Type 0
Reads part None = (n : ℕ) → n < 2 ^ 32 → part ≢ columns (length part) n
Reads part (Some n) = part ≡ columns (length part) n

-- the text stands at the right of the columns; or it is longer than they are, and they are as before
abbrev pub Writes : List ℕ → List ℕ → List ℕ → Result (Unit {0}) NoRoom → Type 0
Writes text before after (Ok u) = (after ≡ pad (length before) text) × (length text ≤ length before)
Writes text before after (Err f) = (after ≡ before) × (length before < length text)

-- a cell: its letter, and its number in nine columns
unfoldable pub cell_text : Cell → List ℕ
cell_text c = c.letter ∷ columns 9 c.number

-- a cell whose number has at most nine digits
abbrev pub Short : Cell → Type 0
Short c = c.number < 10 ^ 9

-- the cell that the columns show, or absent where they show none
abbrev pub ReadsCell : List ℕ → Option Cell → Type 0
ReadsCell part None = (c : Cell) → Short c → part ≢ cell_text c
ReadsCell part (Some c) = (part ≡ cell_text c) × Short c

-- the cell stands in the columns; or there are not ten or its number is too long, and they are as before
abbrev pub WritesCell : Cell → List ℕ → List ℕ → Result (Unit {0}) NoRoom → Type 0
WritesCell c before after (Ok u) = (after ≡ cell_text c) × Short c × (length before ≡ 10)
WritesCell c before after (Err f) = (after ≡ before) × (Short c → length before ≢ 10)
