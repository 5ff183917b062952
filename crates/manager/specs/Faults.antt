-- The manager's refusals: its own have no place; the pattern's and the store's are carried whole.
use Rattle.std.specs.Prelude.{ℕ, None}
use Rattle.refusals.specs.declared.Refusal.{Refusal}
use Rattle.refusals.specs.declared.Layer.TheVariants.{Manager}
use Rattle.terms.specs.Faults.{pattern_refusal}
use Rattle.stores.specs.Faults.{store_refusal}
use Rattle.manager.specs.declared.fault.ManagerFault.{ManagerFault}
use Rattle.manager.specs.declared.fault.ManagerFault.TheVariants.{Pattern, Store, Planner, TransactionsFull, NumbersSpent, NotOpen, Right, ReservationsFull, NoneFits, NotOwn, Count, NoneWrites, ChangesFull, Conflict}

abbrev own : ℕ → Refusal
own number = record { number = number; layer = Manager; place = None; field = None }

abbrev pub manager_refusal : ManagerFault → Refusal
manager_refusal (Pattern f) = pattern_refusal f
manager_refusal (Store f) = store_refusal f
manager_refusal Planner = own 10
manager_refusal TransactionsFull = own 11
manager_refusal NumbersSpent = own 12
manager_refusal NotOpen = own 13
manager_refusal Right = own 14
manager_refusal ReservationsFull = own 24
manager_refusal NoneFits = own 25
manager_refusal NotOwn = own 26
manager_refusal Count = own 27
manager_refusal NoneWrites = own 28
manager_refusal ChangesFull = own 29
manager_refusal (Conflict transaction reservation) = own 30
