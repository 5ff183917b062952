-- Lines of 128 characters.
use Rattle.std.specs.Prelude.{◌≡◌, ℕ, zero, suc, ◌*◌, ◌<◌, ◌≤◌, List, [], ◌∷◌, ◌++◌, length, take, drop, Some, None, Option, ◌≢◌}
use Rattle.std.specs.List.{slice_get, AllByRecursion}
use Rattle.terms.specs.declared.cell.Cell.{Cell}
use Rattle.columns.specs.Columns.{blank, columns, cell_text, Short}

-- cells with numbers of at most nine digits
abbrev pub Small : List Cell → Type 0
Small cs = AllByRecursion Short cs

-- ten columns: a cell, or blank after the row
abbrev pub slot_text : Option Cell → List ℕ
slot_text None = blank 10
slot_text (Some c) = cell_text c

-- the first j cells of a line
unfoldable pub slots : ℕ → List Cell → List ℕ
slots zero cs = []
slots (suc j) cs = slots j cs ++ slot_text (slice_get cs j)

-- the line of a row and its count: twelve cells, the count in seven columns, and a newline
unfoldable pub shown : List Cell → ℕ → List ℕ
shown cs n = slots 12 cs ++ (columns 7 n ++ (10 ∷ []))

-- the blank line: 127 spaces and a newline
unfoldable pub blank_line : List ℕ
blank_line = blank 127 ++ (10 ∷ [])

-- cell number j of a line
unfoldable pub field : ℕ → List ℕ → List ℕ
field j line = take 10 (drop (j * 10) line)

-- the cells from one on up to another are blank
abbrev pub Blanks : List ℕ → ℕ → ℕ → Type 0
Blanks line from to = (j : ℕ) → from ≤ j → j < to → field j line ≡ blank 10

-- cell f is the first, from one on, that is not blank
pub record Marked (line : List ℕ) (from f : ℕ) : Type 0 where
  pub above : from ≤ f
  pub within : f < 12
  pub before : Blanks line from f
  pub here : field f line ≡ blank 10 → ⊥

-- the line begins with these cells and then with no other
pub record Scanned (line : List ℕ) (cs : List Cell) : Type 0 where
  pub few : length cs ≤ 12
  pub small : Small cs
  pub front : take (length cs * 10) line ≡ slots (length cs) cs
  pub stops : length cs < 12 → (c : Cell) → Short c → field (length cs) line ≢ cell_text c
