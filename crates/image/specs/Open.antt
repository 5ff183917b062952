-- Opening an image: it is accepted exactly where it is sound, and else the first fault is named.
use Rattle.std.specs.Prelude.{◌≡◌, ℕ, ◌+◌, ◌*◌, ◌<◌, true, ◌⊎◌, List, length, Ok, Err, Result}
use Rattle.kinds.specs.Meaning.{Meaning}
use Rattle.terms.specs.declared.cell.Cell.{Cell}
use Rattle.terms.specs.Proper.{Arities, RowCells}
use Rattle.terms.specs.Reading.{SignatureRead}
use Rattle.stores.specs.declared.fault.StoreFault.{StoreFault}
use Rattle.stores.specs.declared.fault.StoreFault.TheVariants.{Length, Line, Again}
use Rattle.stores.specs.Means.{Allowed}
use Rattle.stores.specs.Places.{row_at, taken}
use Rattle.terms.specs.Rows.{Storable}
use Rattle.image.specs.Texts.{BadField}
use Rattle.image.specs.Meaning.{line, lines_in, meaning, Shows, Sound}
use Rattle.image.specs.declared.fault.OpeningFault.{OpeningFault}
use Rattle.image.specs.declared.fault.OpeningFault.TheVariants.{Store, Pattern}

-- 1 to 4,096 whole lines
abbrev pub Sizes : List ℕ → Type 0
Sizes xs = (length xs ≡ lines_in xs * 128) × Allowed (lines_in xs)

-- the lines j and k have one row
pub record SameRow (xs : List ℕ) (j k : ℕ) : Type 0 where
  pub first : taken (meaning (line j xs)) ≡ true
  pub second : taken (meaning (line k xs)) ≡ true
  pub row : row_at (meaning (line j xs)) ≡ row_at (meaning (line k xs))

-- line k is proper, and has no row of an earlier line
pub record Good (Row : List Cell → Type 0) (xs : List ℕ) (k : ℕ) : Type 0 where
  pub shows : Shows Row (line k xs)
  pub new : (j : ℕ) → j < k → SameRow xs j k → ⊥

abbrev pub GoodTo : (List Cell → Type 0) → List ℕ → ℕ → Type 0
GoodTo Row xs n = (k : ℕ) → k < n → Good Row xs k

-- line k is bad at a field, which counts from 1; or it is proper and has the row of an earlier line
abbrev pub LineFault : (List Cell → Type 0) → List ℕ → ℕ → StoreFault → Type 0
LineFault Row xs k f =
    ((field : ℕ) × (f ≡ Line k (field + 1)) × BadField Row (line k xs) field)
    ⊎ ((f ≡ Again k) × Shows Row (line k xs) × ((j : ℕ) × (j < k) × SameRow xs j k))

abbrev pub LineChecked : (List Cell → Type 0) → List ℕ → ℕ → Result (Unit {0}) StoreFault → Type 0
LineChecked Row xs k (Ok u) = Good Row xs k
LineChecked Row xs k (Err f) = LineFault Row xs k f

-- the lines before are good, and this one has the fault
pub record Stops (Row : List Cell → Type 0) (xs : List ℕ) (f : StoreFault) : Type 0 where
  pub at : ℕ
  pub within : at < lines_in xs
  pub before : GoodTo Row xs at
  pub here : LineFault Row xs at f

abbrev pub LinesChecked : (List Cell → Type 0) → List ℕ → Result (Unit {0}) StoreFault → Type 0
LinesChecked Row xs (Ok u) = GoodTo Row xs (lines_in xs)
LinesChecked Row xs (Err f) = Stops Row xs f

-- What an opening accepts: the image is sound for rows of the signature and the kind, which stores can keep, and stays as it is.
pub record Accepted (sig : List ℕ) (M : Meaning) (xs ys : List ℕ) : Type 0 where
  pub same : ys ≡ xs
  pub arities : Arities sig
  pub sound : Sound (RowCells sig M) xs
  pub kept : Sound Storable ys

-- What an opening refuses: first a length, then the signature, then the lines from the top.
abbrev pub Refused : List ℕ → Meaning → List ℕ → OpeningFault → Type 0
Refused sig M xs (Store f) =
    ((f ≡ Length) × (Sizes xs → ⊥)) ⊎ (Sizes xs × Arities sig × Stops (RowCells sig M) xs f)
Refused sig M xs (Pattern f) = Sizes xs × SignatureRead sig (Err f)
