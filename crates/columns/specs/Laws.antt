-- What the columns show is one thing at most.
use Rattle.std.specs.Prelude.{◌≡◌, ℕ, ◌^◌, ◌<◌, ◌≢◌}
use Rattle.terms.specs.declared.cell.Cell.{Cell}
use Rattle.columns.specs.Columns.{blank, columns, cell_text, Short}

-- no two numbers have one text in the same columns, no two cells have one text, and neither is blank
pub record OneMeaning : Type 0 where
  pub number : (w m n : ℕ) → m < 2 ^ 32 → n < 2 ^ 32 → columns w m ≡ columns w n → m ≡ n
  pub cell : (c d : Cell) → Short c → Short d → cell_text c ≡ cell_text d → c ≡ d
  pub number_blank : (w n : ℕ) → n < 2 ^ 32 → columns w n ≢ blank w
  pub cell_blank : (c : Cell) → Short c → cell_text c ≢ blank 10
