-- Look, write and strike: their checks in order, and what they do.
use Rattle.std.specs.Prelude.{◌≡◌, ℕ, ◌≤◌, true, false, List, [], ◌∷◌, map, length, is_some, ◌≢◌}
use Rattle.kinds.specs.Meaning.{Meaning}
use Rattle.maps.specs.Maps.{In}
use Rattle.terms.specs.declared.cell.Cell.{Cell}
use Rattle.terms.specs.declared.fault.PatternFault.{PatternFault}
use Rattle.terms.specs.Proper.{RowCells}
use Rattle.terms.specs.Reading.{CellsRefused}
use Rattle.terms.specs.Fitting.{cells_of}
use Rattle.terms.specs.Rows.{decided}
use Rattle.serial.specs.Rights.{Change}
use Rattle.serial.specs.Machine.{pending_for, enter}
use Rattle.ledger.specs.declared.entry.PendingChange.{PendingChange}
use Rattle.ledger.specs.Covering.{Covered}
use Rattle.manager.specs.declared.fault.ManagerFault.TheVariants.{Pattern, NoneFits, Count, NoneWrites, ChangesFull}
use Rattle.manager.specs.declared.memory.Memory.{Memory}
use Rattle.ledger.specs.Words.{pending_of}
use Rattle.manager.specs.Book.{Book}
use Rattle.manager.specs.Checks.{Check, unless}
use Rattle.manager.specs.Ending.{sizes, is_open}

-- the cells are a row, or their first fault is named (20 and 21)
abbrev pub proper_row : List ℕ → Meaning → List Cell → Check
proper_row sig M cs = (RowCells sig M cs, λ f. (e : PatternFault) × (f ≡ Pattern e) × CellsRefused (RowCells sig M) M cs e)

-- the checks that look, write and strike begin with
abbrev pub row_checks : List ℕ → Meaning → Memory → Book → ℕ → List Cell → List Check
row_checks sig M x b t row = sizes x ∷ is_open t b ∷ proper_row sig M row ∷ []

-- a full roll has a change of t's for the row already
abbrev pub HasPlace : ℕ → List Cell → Book → Type 0
HasPlace t row b = length b.changes ≡ 128 → is_some (pending_for decided t row (map pending_of b.changes)) ≡ true

abbrev pub look_rules : List ℕ → Meaning → Book → ℕ → List Cell → List Check
look_rules sig M b t row = is_open t b ∷ proper_row sig M row ∷ unless NoneFits (Covered sig M t row false b.reservations) ∷ []

abbrev pub look_checks : List ℕ → Meaning → Memory → Book → ℕ → List Cell → List Check
look_checks sig M x b t row = sizes x ∷ look_rules sig M b t row

abbrev pub write_rules : List ℕ → Meaning → Book → ℕ → List Cell → ℕ → List Check
write_rules sig M b t row count =
    is_open t b
    ∷ proper_row sig M row
    ∷ unless Count (count ≤ 999999)
    ∷ unless NoneWrites (Covered sig M t row true b.reservations)
    ∷ unless ChangesFull (HasPlace t row b)
    ∷ []

abbrev pub write_checks : List ℕ → Meaning → Memory → Book → ℕ → List Cell → ℕ → List Check
write_checks sig M x b t row count = sizes x ∷ write_rules sig M b t row count

abbrev pub strike_rules : List ℕ → Meaning → Book → ℕ → List Cell → List Check
strike_rules sig M b t row =
    is_open t b
    ∷ proper_row sig M row
    ∷ unless NoneWrites (Covered sig M t row true b.reservations)
    ∷ unless ChangesFull (HasPlace t row b)
    ∷ []

abbrev pub strike_checks : List ℕ → Meaning → Memory → Book → ℕ → List Cell → List Check
strike_checks sig M x b t row = sizes x ∷ strike_rules sig M b t row

-- the checks that write and strike end with
abbrev pub enter_rules : List ℕ → Meaning → Book → ℕ → List Cell → List Check
enter_rules sig M b t row = unless NoneWrites (Covered sig M t row true b.reservations) ∷ unless ChangesFull (HasPlace t row b) ∷ []

-- t's change for the row becomes this one, in its place or at the end, and all else is as it was
pub record Changed (t : ℕ) (row : List Cell) (a : Change) (b b' : Book) : Type 0 where
  pub entered : List PendingChange
  pub changes : map pending_of entered ≡ enter decided t row a (map pending_of b.changes)
  pub rows : (c : PendingChange) → In c entered → (cells_of c.row ≢ row) → In c b.changes
  pub book : b' ≡ record {
    transactions = b.transactions;
    reservations = b.reservations;
    changes = entered;
    last_transaction = b.last_transaction;
    last_reservation = b.last_reservation;
    last_commit = b.last_commit;
    tally = b.tally;
  }
