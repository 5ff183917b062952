use Rattle.std.proofs.Common.{true, ◌∙◌}
use Rattle.ledger.proofs.Passes.{enters_more, enters_all}
use Rattle.ledger.proofs.entering.enter_absences.Goals as goal

pub loop-change-preserved : goal.loop-change-preserved
loop-change-preserved g c = (
  enters_more true c.args.transaction c.args.changes.now c.loop-change.change-index c.change-item.result (g.S.Store.means c.args.store.now) (g.S.Store.means c.loop-change.store) (g.S.Store.means c.enter_absence.new.store)
      c.loop-change-test.true c.change-item.is c.loop-change.invariant.0 c.enter_absence.ensures.map,
  c.enter_absence.ensures.places ∙ c.loop-change.invariant.1,
)

pub returns : goal.returns
returns g c =
    record {
      map = enters_all true c.args.transaction c.args.changes.now c.loop-change.change-index (g.S.Store.means c.args.store.now) (g.S.Store.means c.loop-change.store) c.loop-change-test.false c.loop-change.invariant.0;
      places = c.loop-change.invariant.1;
    }
