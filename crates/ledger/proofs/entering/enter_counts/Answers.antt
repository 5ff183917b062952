use Rattle.std.proofs.Common.{false, ◌∙◌}
use Rattle.ledger.proofs.Passes.{enters_more, enters_all, room_one, room_next}
use Rattle.ledger.proofs.entering.enter_counts.Goals as goal

pub enter_count-requires : goal.enter_count-requires
enter_count-requires g c =
    room_one c.args.transaction c.args.changes.now c.loop-change.change-index c.change-item.result c.loop-change-test.true c.change-item.is (g.S.Store.means c.loop-change.store) (g.S.Store.places c.loop-change.store) c.loop-change.invariant.2
    (g.S.Store.rows c.loop-change.store) (g.S.Store.listed c.loop-change.store)

pub loop-change-preserved : goal.loop-change-preserved
loop-change-preserved g c = (
  enters_more false c.args.transaction c.args.changes.now c.loop-change.change-index c.change-item.result (g.S.Store.means c.args.store.now) (g.S.Store.means c.loop-change.store) (g.S.Store.means c.enter_count.new.store)
      c.loop-change-test.true c.change-item.is c.loop-change.invariant.0 c.enter_count.ensures.map,
  c.enter_count.ensures.places ∙ c.loop-change.invariant.1,
  room_next c.args.transaction c.args.changes.now c.loop-change.change-index c.change-item.result c.loop-change-test.true c.change-item.is (g.S.Store.means c.loop-change.store) (g.S.Store.places c.loop-change.store) c.loop-change.invariant.2
      (g.S.Store.means c.enter_count.new.store) (g.S.Store.places c.enter_count.new.store) c.enter_count.ensures.map c.enter_count.ensures.places,
)

pub returns : goal.returns
returns g c =
    record {
      map = enters_all false c.args.transaction c.args.changes.now c.loop-change.change-index (g.S.Store.means c.args.store.now) (g.S.Store.means c.loop-change.store) c.loop-change-test.false c.loop-change.invariant.0;
      places = c.loop-change.invariant.1;
    }
