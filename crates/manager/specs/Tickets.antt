-- What becomes of tickets.
use Rattle.std.specs.Prelude.{◌≡◌, ℕ, List, Ok, Err, Result}
use Rattle.rolls.specs.Rolls.{Has}
use Rattle.manager.specs.declared.fault.ManagerFault.{ManagerFault}
use Rattle.manager.specs.declared.host.AbandonFault.{AbandonFault}
use Rattle.manager.specs.declared.host.AbandonFault.TheVariants.{NotOpen, Back}
use Rattle.manager.specs.declared.memory.Memory.{Memory}
use Rattle.manager.specs.declared.ticket.Ticket.{Ticket}
use Rattle.manager.specs.Book.{Book, Sizes}
use Rattle.manager.specs.Checks.{Check, Passed, Refused}
use Rattle.manager.specs.Ending.{Abandoned}

-- granted exactly when every check passes; else the first check that fails is named, `Still` holds, and the ticket comes back as it was
abbrev pub Ticketed : {A : Type 0} → List Check → (A → Type 0) → Type 0 → Ticket → Result A (Ticket × ManagerFault) → Type 0
Ticketed cs Granted Still k (Ok a) = Passed cs × Granted a
Ticketed cs Granted Still k (Err p) = (p.0 ≡ k) × Refused cs p.1 × Still

-- a ticket is taken, unless the memory of a roll has not its size; only an open transaction's entries leave
abbrev pub GivenUp : Memory → Book → Book → Ticket → Result ℕ AbandonFault → Type 0
GivenUp x b b' k (Ok n) = Sizes x × Has (λ e. e.number) k.number b.transactions × Abandoned k.number b b' n
GivenUp x b b' k (Err NotOpen) = Sizes x × (Has (λ e. e.number) k.number b.transactions → ⊥) × (b' ≡ b)
GivenUp x b b' k (Err (Back back)) = (Sizes x → ⊥) × (back ≡ k) × (b' ≡ b)
