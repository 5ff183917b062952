-- A new manager.
use Rattle.std.specs.Prelude.{◌≡◌, ℕ, List, [], ◌∷◌}
use Rattle.refusals.specs.Places.{FirstFault}
use Rattle.terms.specs.declared.fault.PatternFault.TheVariants.{Arity}
use Rattle.terms.specs.Proper.{Arities}
use Rattle.manager.specs.declared.fault.ManagerFault.TheVariants.{Pattern}
use Rattle.manager.specs.declared.memory.Memory.{Memory}
use Rattle.manager.specs.declared.state.Manager.{Manager}
use Rattle.manager.specs.Book.{Book, book_of}
use Rattle.manager.specs.Checks.{Check}
use Rattle.manager.specs.Ending.{sizes}

-- a new manager: the memory's sizes (40), then the signature (19)
abbrev pub new_checks : Memory → List ℕ → List Check
new_checks x arities = sizes x ∷ (Arities arities, λ f. (i : ℕ) × FirstFault Arities arities i × (f ≡ Pattern (Arity i))) ∷ []

-- the book of a new manager: its rolls are empty, and its numbers and its tally are 0
abbrev pub fresh : Book
fresh = record { transactions = []; reservations = []; changes = []; last_transaction = 0; last_reservation = 0; last_commit = 0; tally = 0 }

-- it has its signature, its kind and a new book
pub record Made {K : Type 0} (values : K) (arities : List ℕ) (x : Memory) (m : Manager K) : Type 0 where
  pub signature : m.signature.arities ≡ arities
  pub kind : m.kind ≡ values
  pub book : book_of m x ≡ fresh
