-- What the entries of the rolls mean, in the words of the serial order: rows are lists of cells, patterns are descriptions.
use Rattle.std.specs.Prelude.{◌≡◌, ℕ, List, Some, None, Ok, Err, Option, Result}
use Rattle.kinds.specs.Meaning.{Meaning}
use Rattle.terms.specs.declared.cell.Cell.{Cell}
use Rattle.terms.specs.Fitting.{Description, described, Fits, cells_of}
use Rattle.terms.specs.Rows.{decided}
use Rattle.stores.specs.Means.{count_of}
use Rattle.stores.specs.declared.count.Count.{Count}
use Rattle.serial.specs.Language.{Language}
use Rattle.serial.specs.Rights as rights
use Rattle.serial.specs.Rights.{letter_of}
use Rattle.serial.specs.History.{Grant}
use Rattle.serial.specs.Machine.{Pending}
use Rattle.ledger.specs.declared.entry.Right.{Right}
use Rattle.ledger.specs.declared.entry.Right.TheVariants.{Read, Write}
use Rattle.ledger.specs.declared.entry.UnknownRight.{UnknownRight}
use Rattle.ledger.specs.declared.entry.Reservation.{Reservation}
use Rattle.ledger.specs.declared.entry.PendingChange.{PendingChange}

-- the rows and patterns of a signature and a kind
abbrev pub language : List ℕ → Meaning → Language (List Cell) Description
language sig M = record { same = decided; fits = Fits sig M }

abbrev pub right_of : Right → rights.Right
right_of Read = rights.Right.reading
right_of Write = rights.Right.writing

-- the letter names a right
abbrev pub NamesRight : ℕ → Type 0
NamesRight letter = (w : rights.Right) × (letter ≡ letter_of w)

-- the right that a letter names, or that it names none
abbrev pub RightNamed : ℕ → Result Right UnknownRight → Type 0
RightNamed letter (Ok w) = letter ≡ letter_of (right_of w)
RightNamed letter (Err e) = NamesRight letter → ⊥

abbrev pub change_of : Option Count → rights.Change
change_of (Some c) = rights.Change.written (count_of c)
change_of None = rights.Change.struck

abbrev pub grant_of : Reservation → Grant Description
grant_of r = record { owner = r.owner; right = right_of r.right; pattern = described r.pattern; number = r.number }

abbrev pub pending_of : PendingChange → Pending (List Cell)
pending_of c = record { owner = c.owner; row = cells_of c.row; change = change_of c.change }
