-- The changes of a transaction enter a store.
use Rattle.std.specs.Prelude.{◌≡◌, ℕ, ◌≤◌, List, map, Ok, Err, Result}
use Rattle.maps.specs.Maps.{Map, Same, Sized}
use Rattle.terms.specs.declared.cell.Cell.{Cell}
use Rattle.terms.specs.Rows.{decided}
use Rattle.stores.specs.declared.fault.StoreFault.{StoreFault}
use Rattle.stores.specs.declared.fault.StoreFault.TheVariants.{Full}
use Rattle.serial.specs.Machine.{with_own}
use Rattle.ledger.specs.declared.entry.PendingChange.{PendingChange}
use Rattle.ledger.specs.Words.{pending_of}

-- the map has at most so many rows
pub record AtMost (places : ℕ) (m : Map (List Cell)) : Type 0 where
  pub size : ℕ
  pub sized : Sized m size
  pub within : size ≤ places

-- These changes of t's enter a store: refused exactly when the map would have more rows than places, and then nothing has changed.
abbrev pub Entered : {S : Type 0} → (S → Map (List Cell)) → (S → ℕ) → ℕ → List PendingChange → S → S → Result (Unit {0}) StoreFault → Type 0
Entered means places t cs s s' (Ok u) =
    Same (means s') (with_own decided t (map pending_of cs) (means s)) × (places s' ≡ places s) × AtMost (places s) (with_own decided t (map pending_of cs) (means s))
Entered means places t cs s s' (Err f) = (f ≡ Full) × (AtMost (places s) (with_own decided t (map pending_of cs) (means s)) → ⊥) × (s' ≡ s)
