-- What the manager and the memory of its rolls hold together.
use Rattle.std.specs.Prelude.{◌≡◌, ℕ, ◌≤◌, List, map, length, take}
use Rattle.kinds.specs.Meaning.{Meaning}
use Rattle.maps.specs.Maps.{Map, In, Once}
use Rattle.terms.specs.declared.cell.Cell.{Cell}
use Rattle.terms.specs.Fitting.{Description, described, cells_of}
use Rattle.terms.specs.Proper.{RowCells, ProperPattern}
use Rattle.serial.specs.Machine.{State, KeysOnce}
use Rattle.ledger.specs.declared.entry.Transaction.{Transaction}
use Rattle.ledger.specs.declared.entry.Reservation.{Reservation}
use Rattle.ledger.specs.declared.entry.PendingChange.{PendingChange}
use Rattle.manager.specs.declared.memory.Memory.{Memory}
use Rattle.manager.specs.declared.state.Manager.{Manager}
use Rattle.ledger.specs.Words.{grant_of, pending_of}

-- the rolls in order of arrival, the last numbers given, and the tally
pub record Book : Type 0 where
  pub transactions : List Transaction
  pub reservations : List Reservation
  pub changes : List PendingChange
  pub last_transaction : ℕ
  pub last_reservation : ℕ
  pub last_commit : ℕ
  pub tally : ℕ

abbrev pub book_of : {K : Type 0} → Manager K → Memory → Book
book_of m x = record {
  transactions = take m.transactions.len x.transactions.now;
  reservations = take m.reservations.len x.reservations.now;
  changes = take m.changes.len x.changes.now;
  last_transaction = m.last_transaction;
  last_reservation = m.last_reservation;
  last_commit = m.last_commit;
  tally = m.tally;
}

-- the state of the serial order's machine, over the store's map
abbrev pub state_of : Book → Map (List Cell) → State (List Cell) Description
state_of b m = record {
  opens = map (λ t. t.number) b.transactions;
  held = map grant_of b.reservations;
  pending = map pending_of b.changes;
  last_transaction = b.last_transaction;
  last_reservation = b.last_reservation;
  last_commit = b.last_commit;
  store = m;
}

-- each roll's memory has its size
pub record Sizes (x : Memory) : Type 0 where
  pub transactions : length x.transactions.now ≡ 16
  pub reservations : length x.reservations.now ≡ 64
  pub changes : length x.changes.now ≡ 128

-- numbers that were given once, none above the last
pub record Given (last : ℕ) (numbers : List ℕ) : Type 0 where
  pub once : Once numbers
  pub most : (n : ℕ) → In n numbers → n ≤ last

-- What every call keeps: numbers are given once, no transaction has two changes for one row, and the patterns and rows that
-- were accepted are proper. (Counts are within their bounds by their type.)
pub record Sound (sig : List ℕ) (M : Meaning) (b : Book) : Type 0 where
  pub transactions : Given b.last_transaction (map (λ t. t.number) b.transactions)
  pub reservations : Given b.last_reservation (map (λ r. r.number) b.reservations)
  pub keys : KeysOnce (map pending_of b.changes)
  pub patterns : (r : Reservation) → In r b.reservations → ProperPattern sig M (described r.pattern)
  pub rows : (c : PendingChange) → In c b.changes → RowCells sig M (cells_of c.row)

-- the same of a manager and the memory that it is lent, where that has its sizes
abbrev pub Well : {K : Type 0} → (K → Meaning) → Manager K → Memory → Type 0
Well means m x = Sizes x → Sound m.signature.arities (means m.kind) (book_of m x)

-- a call leaves the signature and the kind as they are
pub record Fixed {K : Type 0} (m m' : Manager K) : Type 0 where
  pub signature : m'.signature ≡ m.signature
  pub kind : m'.kind ≡ m.kind
