-- Begin, and the two ends of a transaction.
use Rattle.std.specs.Prelude.{◌≡◌, ℕ, suc, ◌<◌, ◌≤◌, List, [], ◌∷◌, ◌++◌, map, length, count_by, nat_eq}
use Rattle.maps.specs.Maps.{Map, Same}
use Rattle.terms.specs.declared.cell.Cell.{Cell}
use Rattle.rolls.specs.Rolls.{Has, without}
use Rattle.terms.specs.Rows.{decided}
use Rattle.stores.specs.declared.fault.StoreFault.TheVariants.{Full, Length}
use Rattle.serial.specs.Machine.{with_own}
use Rattle.ledger.specs.Entering.{AtMost}
use Rattle.manager.specs.declared.fault.ManagerFault.TheVariants.{Store, Planner, TransactionsFull, NumbersSpent, NotOpen}
use Rattle.manager.specs.declared.memory.Memory.{Memory}
use Rattle.ledger.specs.Words.{pending_of}
use Rattle.manager.specs.Book.{Book, Sizes}
use Rattle.manager.specs.Checks.{Check, unless}

-- the memory of each roll has its size (40)
abbrev pub sizes : Memory → Check
sizes x = unless (Store Length) (Sizes x)

-- the transaction is open (13)
abbrev pub is_open : ℕ → Book → Check
is_open t b = unless NotOpen (Has (λ e. e.number) t b.transactions)

-- the checks of a call after the sizes, by the name of its rules; a call's checks are the sizes and then these
abbrev pub begin_rules : Book → ℕ → List Check
begin_rules b planner =
    unless Planner ((1 ≤ planner) × (planner ≤ 16))
    ∷ unless TransactionsFull (length b.transactions < 16)
    ∷ unless NumbersSpent (b.last_transaction < 999999)
    ∷ []

abbrev pub begin_checks : Memory → Book → ℕ → List Check
begin_checks x b planner = sizes x ∷ begin_rules b planner

-- the next number is open, for the planner, and all else is as it was
pub record Begun (planner : ℕ) (b b' : Book) (number : ℕ) : Type 0 where
  pub next : number ≡ suc b.last_transaction
  pub book : b' ≡ record {
    transactions = b.transactions ++ (record { number = number; planner = planner } ∷ []);
    reservations = b.reservations;
    changes = b.changes;
    last_transaction = number;
    last_reservation = b.last_reservation;
    last_commit = b.last_commit;
    tally = b.tally;
  }

-- the book without the entries of t, the others in their order, and with this last commit
abbrev pub ended : ℕ → ℕ → Book → Book
ended t commit b = record {
  transactions = without (λ e. e.number) t b.transactions;
  reservations = without (λ e. e.owner) t b.reservations;
  changes = without (λ e. e.owner) t b.changes;
  last_transaction = b.last_transaction;
  last_reservation = b.last_reservation;
  last_commit = commit;
  tally = b.tally;
}

abbrev pub abandon_rules : Book → ℕ → List Check
abandon_rules b t = is_open t b ∷ []

abbrev pub abandon_checks : Memory → Book → ℕ → List Check
abandon_checks x b t = sizes x ∷ abandon_rules b t

-- all entries of t leave, and the answer is how many changes it had
pub record Abandoned (t : ℕ) (b b' : Book) (number : ℕ) : Type 0 where
  pub counted : number ≡ count_by (λ c. nat_eq c.owner t) b.changes
  pub book : b' ≡ ended t b.last_commit b

-- the map as t sees it: what it is to be after t's commit
abbrev pub own_map : ℕ → Book → Map (List Cell) → Map (List Cell)
own_map t b m = with_own decided t (map pending_of b.changes) m

abbrev pub commit_rules : Book → Map (List Cell) → ℕ → ℕ → List Check
commit_rules b m places t = is_open t b ∷ unless (Store Full) (AtMost places (own_map t b m)) ∷ []

abbrev pub commit_checks : Memory → Book → Map (List Cell) → ℕ → ℕ → List Check
commit_checks x b m places t = sizes x ∷ commit_rules b m places t

-- the changes of t have entered the map, all its entries leave, and the answer is the next commit number
pub record Committed (t : ℕ) (b b' : Book) (m m' : Map (List Cell)) (number : ℕ) : Type 0 where
  pub next : number ≡ suc b.last_commit
  pub store : Same m' (own_map t b m)
  pub book : b' ≡ ended t number b
