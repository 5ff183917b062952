-- Reservations that cover a row, and changes for it.
use Rattle.std.specs.Prelude.{◌≡◌, ℕ, ◌<◌, Bool, true, List, length, take, slice_index_or}
use Rattle.kinds.specs.Meaning.{Meaning}
use Rattle.maps.specs.Maps.{In}
use Rattle.terms.specs.declared.cell.Cell.{Cell}
use Rattle.terms.specs.Fitting.{described, Fits, cells_of}
use Rattle.serial.specs.Rights.{Right.writing}
use Rattle.ledger.specs.declared.entry.PendingChange.{PendingChange}
use Rattle.ledger.specs.declared.entry.Reservation.{Reservation}
use Rattle.ledger.specs.Words.{right_of}

-- the reservation is t's own and the row fits it; for a change, it is for writing
pub record Covers (sig : List ℕ) (M : Meaning) (t : ℕ) (row : List Cell) (changing : Bool) (h : Reservation) : Type 0 where
  pub mine : h.owner ≡ t
  pub fits : Fits sig M row (described h.pattern)
  pub writes : changing ≡ true → right_of h.right ≡ writing

-- one of the reservations does
abbrev pub Covered : List ℕ → Meaning → ℕ → List Cell → Bool → List Reservation → Type 0
Covered sig M t row changing hs = (h : Reservation) × In h hs × Covers sig M t row changing h

-- the change is t's for the row
abbrev pub For : ℕ → List Cell → PendingChange → Type 0
For t row c = (c.owner ≡ t) × (cells_of c.row ≡ row)

-- the first change of t's for the row stands at place k
pub record FirstFor (t : ℕ) (row : List Cell) (cs : List PendingChange) (k : ℕ) : Type 0 where
  pub change : PendingChange
  pub within : k < length cs
  pub there : change ≡ slice_index_or cs k change
  pub here : For t row change
  pub before : (c : PendingChange) → In c (take k cs) → ¬ For t row c
