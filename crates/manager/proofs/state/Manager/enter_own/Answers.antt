use Rattle.std.proofs.Common.{map, length, sym, ap, subst, arith}
use Rattle.std.proofs.lemmas.List.{length-take-le}
use Rattle.serial.specs.Machine.{KeysOnce}
use Rattle.ledger.specs.Words.{pending_of}
use Rattle.ledger.specs.Entering.{Entered}
use Rattle.manager.proofs.state.Manager.enter_own.Goals as goal

pub enter_changes-requires : goal.enter_changes-requires
enter_changes-requires g c =
    let z = c.requires.sizes.changes in
    let s = c.args.self.now.many in
    let l = length-take-le c.args.self.now.changes.len c.args.memory.now.changes.now (omega arith) in
    let e = ap length c.entries.ensures in
    record { keys = subst (λ l. KeysOnce (map pending_of l)) (sym c.entries.ensures) (c.requires.well c.requires.sizes).keys; few = omega (arith, l, e, s) }

pub returns : goal.returns
returns g c =
    subst (λ l. Entered g.S.Store.means g.S.Store.places c.args.transaction l c.args.store.now c.enter_changes.new.store c.enter_changes.result) c.entries.ensures c.enter_changes.ensures
