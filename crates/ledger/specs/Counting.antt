-- What a survey counts: rows of the store, and changes of the transaction's.
use Rattle.std.specs.Prelude.{◌≡◌, ℕ, List, map, Some, None, Option}
use Rattle.kinds.specs.Meaning.{Meaning}
use Rattle.maps.specs.Maps.{In}
use Rattle.terms.specs.declared.cell.Cell.{Cell}
use Rattle.terms.specs.declared.pattern.Pattern.{Pattern}
use Rattle.terms.specs.Fitting.{Description, Fits, cells_of}
use Rattle.stores.specs.Means.{count_of}
use Rattle.terms.specs.Rows.{decided}
use Rattle.stores.specs.declared.count.Count.{Count}
use Rattle.serial.specs.Rights.{Change.written, Change.struck}
use Rattle.serial.specs.Machine.{pending_for}
use Rattle.ledger.specs.declared.entry.PendingChange.{PendingChange}
use Rattle.ledger.specs.declared.entry.Reservation.{Reservation}
use Rattle.ledger.specs.Words.{change_of, pending_of}

-- the reservation is t's own, and has this number
abbrev pub Own : ℕ → ℕ → Reservation → Type 0
Own t n h = (h.owner ≡ t) × (h.number ≡ n)

-- one of the reservations is
abbrev pub Owned : ℕ → ℕ → List Reservation → Type 0
Owned t n hs = (h : Reservation) × In h hs × Own t n h

-- the pattern of the reservation
abbrev pub Owns : ℕ → ℕ → List Reservation → Option Pattern → Type 0
Owns t n hs (Some p) = (h : Reservation) × In h hs × Own t n h × (h.pattern ≡ p)
Owns t n hs None = Owned t n hs → ⊥

-- a row of the store is counted as it stands there: it fits, and t has no change for it
abbrev pub Stands : List ℕ → Meaning → ℕ → Description → List PendingChange → List Cell → Type 0
Stands sig M t p cs row = Fits sig M row p × (pending_for decided t row (map pending_of cs) ≡ None)

-- the count that a change adds: it is t's, to a count, and its row fits
abbrev pub Adds : List ℕ → Meaning → ℕ → Description → PendingChange → Option Count → Type 0
Adds sig M t p c (Some n) = (c.owner ≡ t) × (change_of c.change ≡ written (count_of n)) × Fits sig M (cells_of c.row) p
Adds sig M t p c None = c.owner ≡ t → Fits sig M (cells_of c.row) p → change_of c.change ≡ struck
