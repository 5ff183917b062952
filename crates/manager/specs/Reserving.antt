-- Reserve: its checks in order, and what it does.
use Rattle.std.specs.Prelude.{◌≡◌, ℕ, suc, ◌<◌, min, ◌⊎◌, List, [], ◌∷◌, ◌++◌, length, take, slice_index_or}
use Rattle.kinds.specs.Meaning.{Meaning}
use Rattle.maps.specs.Maps.{In}
use Rattle.terms.specs.declared.fault.PatternFault.{PatternFault}
use Rattle.terms.specs.Fitting.{Description, described}
use Rattle.terms.specs.Proper.{PatternCells, ProperPattern}
use Rattle.terms.specs.Reading.{CellsRefused, ConstraintsRefused}
use Rattle.compare.specs.declared.sample.Sample.{Sample}
use Rattle.serial.specs.Rights as rights
use Rattle.serial.specs.Rights.{letter_of}
use Rattle.ledger.specs.declared.entry.Reservation.{Reservation}
use Rattle.manager.specs.declared.fault.ManagerFault.{ManagerFault}
use Rattle.manager.specs.declared.fault.ManagerFault.TheVariants.{Pattern, Store, Planner, TransactionsFull, NumbersSpent, NotOpen, Right, ReservationsFull, NoneFits, NotOwn, Count, NoneWrites, ChangesFull, Conflict}
use Rattle.manager.specs.declared.memory.Memory.{Memory}
use Rattle.ledger.specs.Words.{NamesRight, right_of}
use Rattle.manager.specs.Book.{Book}
use Rattle.manager.specs.Checks.{Check, unless}
use Rattle.manager.specs.Ending.{sizes, is_open}
use Rattle.ledger.specs.Clashes.{Clashing, Shown, request}

-- the pattern is proper, or its first fault is named (20 to 23)
abbrev pub proper_pattern : List ℕ → Meaning → Description → Check
proper_pattern sig M p = (
  ProperPattern sig M p,
  λ f. (e : PatternFault) × (f ≡ Pattern e) × (CellsRefused (PatternCells sig M) M p.cells e ⊎ (PatternCells sig M p.cells × ConstraintsRefused M p.constraints e)),
)

-- no reservation collides with the request under the right that the letter names
abbrev pub Clear : List ℕ → Meaning → ℕ → ℕ → Description → List Reservation → Type 0
Clear sig M t letter p hs = (w : rights.Right) → letter ≡ letter_of w → (h : Reservation) → In h hs → ¬ Clashing sig M (request t w p) h

-- the first that does is the holder
pub record Holds (sig : List ℕ) (M : Meaning) (t letter : ℕ) (p : Description) (hs : List Reservation) (f : ManagerFault) : Type 0 where
  pub right : rights.Right
  pub index : ℕ
  pub holder : Reservation
  pub named : letter ≡ letter_of right
  pub within : index < length hs
  pub there : holder ≡ slice_index_or hs index holder
  pub clashing : Clashing sig M (request t right p) holder
  pub before : (h : Reservation) → In h (take index hs) → ¬ Clashing sig M (request t right p) h
  pub fault : f ≡ Conflict holder.owner holder.number

abbrev pub reserve_rules : List ℕ → Meaning → Book → ℕ → ℕ → Description → List Check
reserve_rules sig M b t letter p =
    is_open t b
    ∷ unless Right (NamesRight letter)
    ∷ proper_pattern sig M p
    ∷ unless ReservationsFull (length b.reservations < 64)
    ∷ unless NumbersSpent (b.last_reservation < 999999)
    ∷ (Clear sig M t letter p b.reservations, Holds sig M t letter p b.reservations)
    ∷ []

abbrev pub reserve_checks : List ℕ → Meaning → Memory → Book → ℕ → ℕ → Description → List Check
reserve_checks sig M x b t letter p = sizes x ∷ reserve_rules sig M b t letter p

-- the next number is entered at the end of the roll, and all else is as it was
pub record Reserved (t letter : ℕ) (p : Description) (b b' : Book) (number : ℕ) : Type 0 where
  pub entry : Reservation
  pub owner : entry.owner ≡ t
  pub right : letter ≡ letter_of (right_of entry.right)
  pub pattern : described entry.pattern ≡ p
  pub numbered : entry.number ≡ number
  pub next : number ≡ suc b.last_reservation
  pub book : b' ≡ record {
    transactions = b.transactions;
    reservations = b.reservations ++ (entry ∷ []);
    changes = b.changes;
    last_transaction = b.last_transaction;
    last_reservation = number;
    last_commit = b.last_commit;
    tally = b.tally;
  }

-- one more refusal 30, up to 999,999,999
abbrev pub tallied : Book → Book
tallied b = record {
  transactions = b.transactions;
  reservations = b.reservations;
  changes = b.changes;
  last_transaction = b.last_transaction;
  last_reservation = b.last_reservation;
  last_commit = b.last_commit;
  tally = min (suc b.tally) 999999999;
}

-- a conflict: the tally rises, and the row buffer gets a sample of the rows that fit the holder's reservation and the request
pub record Conflicted (sig : List ℕ) (M : Meaning) (p : Description) (b b' : Book) (buffer' : Sample) (transaction reservation : ℕ) : Type 0 where
  pub holder : Reservation
  pub there : In holder b.reservations
  pub owner : holder.owner ≡ transaction
  pub number : holder.number ≡ reservation
  pub shown : Shown sig M (described holder.pattern) p buffer'
  pub book : b' ≡ tallied b

-- what holds of a conflict, and of any other fault
abbrev pub by_conflict : (ℕ → ℕ → Type 0) → Type 0 → ManagerFault → Type 0
by_conflict C P (Conflict t n) = C t n
by_conflict C P (Pattern f) = P
by_conflict C P (Store f) = P
by_conflict C P Planner = P
by_conflict C P TransactionsFull = P
by_conflict C P NumbersSpent = P
by_conflict C P NotOpen = P
by_conflict C P Right = P
by_conflict C P ReservationsFull = P
by_conflict C P NoneFits = P
by_conflict C P NotOwn = P
by_conflict C P Count = P
by_conflict C P NoneWrites = P
by_conflict C P ChangesFull = P
