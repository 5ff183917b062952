use Rattle.std.proofs.Common.{◌≡◌, false, take, drop}
use Rattle.maps.specs.Maps.{Same}
use Rattle.serial.specs.Entering.{entered}
use Rattle.serial.specs.Entering.{Room}
use Rattle.terms.specs.Rows.{decided}
use Rattle.ledger.proofs.Passes.{pass}
use Rattle.ledger.proofs.entering.enter_counts.Given as goal

abbrev pub invariant-loop-change : goal.invariant-loop-change
invariant-loop-change g l =
    Same (g.S.Store.means l.store) (entered decided (pass false l.transaction (take l.change-index l.changes)) (g.S.Store.means l.initial.store))
    × (g.S.Store.places l.store ≡ g.S.Store.places l.initial.store)
    × Room decided (g.S.Store.means l.store) (pass false l.transaction (drop l.change-index l.changes)) (g.S.Store.places l.store)
