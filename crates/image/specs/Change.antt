-- What a put and a drop do to the lines of an image.
use Rattle.std.specs.Prelude.{◌≡◌, ℕ, ◌<◌, Bool, true, false, ◌⊎◌, List, length, Ok, Err, Result, ◌≢◌}
use Rattle.terms.specs.declared.cell.Cell.{Cell}
use Rattle.stores.specs.declared.fault.StoreFault.{StoreFault}
use Rattle.stores.specs.Places.{NoHit, AtHit}
use Rattle.image.specs.Lines.{shown, blank_line}
use Rattle.image.specs.Meaning.{line, lines_in, entries, FirstFree}

-- line k becomes new, and every other line stays, byte for byte
pub record OnlyLine (k : ℕ) (new xs ys : List ℕ) : Type 0 where
  pub here : line k ys ≡ new
  pub others : (j : ℕ) → (j ≢ k) → line j ys ≡ line j xs
  pub long : length ys ≡ length xs

-- line k has the row; no line has it
pub record AtRow (xs : List ℕ) (q : List Cell) (k : ℕ) : Type 0 where
  pub within : k < lines_in xs
  pub hit : AtHit (entries xs) q k

abbrev pub NoRow : List ℕ → List Cell → Type 0
NoRow xs q = NoHit (entries xs) q (length (entries xs))

-- a put writes the row's line, or for a new row the first blank one; a refused one writes nothing
pub record Wrote (xs ys : List ℕ) (q : List Cell) (n : ℕ) : Type 0 where
  pub at : ℕ
  pub target : AtRow xs q at ⊎ (NoRow xs q × FirstFree xs at)
  pub only : OnlyLine at (shown q n) xs ys

abbrev pub PutLines : List ℕ → List ℕ → List Cell → ℕ → Result (Unit {0}) StoreFault → Type 0
PutLines xs ys q n (Ok u) = Wrote xs ys q n
PutLines xs ys q n (Err f) = ys ≡ xs

-- a drop blanks the row's line; where there is none it writes nothing
pub record Blanked (xs ys : List ℕ) (q : List Cell) : Type 0 where
  pub at : ℕ
  pub target : AtRow xs q at
  pub only : OnlyLine at blank_line xs ys

abbrev pub DropLines : List ℕ → List ℕ → List Cell → Bool → Type 0
DropLines xs ys q true = Blanked xs ys q
DropLines xs ys q false = ys ≡ xs
