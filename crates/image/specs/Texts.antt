-- What lines mean, and where a line goes wrong.
use Rattle.std.specs.Prelude.{◌≡◌, ℕ, ◌≤◌, List, [], ◌∷◌, ◌++◌, take, drop, replicate, Some, None, Ok, Err, Option, Result}
use Rattle.std.specs.Option.{option_map}
use Rattle.refusals.specs.Places.{FirstFault}
use Rattle.terms.specs.declared.cell.Cell.{Cell}
use Rattle.stores.specs.declared.entry.Entry.{Entry}
use Rattle.stores.specs.Places.{Place}
use Rattle.stores.specs.Table.{holding_of}
use Rattle.image.specs.declared.marred.Marred.{Marred}
use Rattle.image.specs.Lines.{shown, blank_line}

-- what a line can mean: a row with its count, or nothing
abbrev pub Proper : (List Cell → Type 0) → Place → Type 0
Proper Row None = Unit {0}
Proper Row (Some h) = Row h.0 × (h.1 ≤ 999999)

-- the line that means it
abbrev pub text : Place → List ℕ
text None = blank_line
text (Some h) = shown h.0 h.1

-- the columns of the fields: twelve cells, the count and the newline
abbrev pub widths : List ℕ
widths = replicate 12 10 ++ (7 ∷ 1 ∷ [])

-- a text cut into parts of such widths
abbrev pub cut : List ℕ → List ℕ → List (List ℕ)
cut [] s = []
cut (w ∷ ws) s = take w s ∷ cut ws (drop w s)

-- the fields of a line
unfoldable pub fields : List ℕ → List (List ℕ)
fields line = cut widths line

-- the fields of some proper line
pub record LineFields (Row : List Cell → Type 0) (fs : List (List ℕ)) : Type 0 where
  pub place : Place
  pub proper : Proper Row place
  pub same : fs ≡ fields (text place)

-- the first field that no proper line begins with, from 0
abbrev pub BadField : (List Cell → Type 0) → List ℕ → ℕ → Type 0
BadField Row line f = FirstFault (LineFields Row) (fields line) f

-- a line is one of three: the text of a row and its count, blank, or bad at a first field
abbrev pub Decoded : (List Cell → Type 0) → List ℕ → Result (Option Entry) Marred → Type 0
Decoded Row line (Ok o) = Proper Row (option_map holding_of o) × (line ≡ text (option_map holding_of o))
Decoded Row line (Err m) = BadField Row line m.field
