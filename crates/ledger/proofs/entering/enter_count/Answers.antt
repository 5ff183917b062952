use Rattle.ledger.proofs.Passes.{put_there}
use Rattle.ledger.proofs.entering.enter_count.Goals as goal

pub returns-in-Some : goal.returns-in-Some
returns-in-Some g c =
    record {
      map = put_there c.args.change.now c.args.transaction c.in-Some.count (g.S.Store.rows c.args.store.now) (g.S.Store.means c.args.store.now) (g.S.Store.means c.put.new.self) (g.S.Store.places c.args.store.now) c.put.result
          (g.S.Store.listed c.args.store.now) c.if-change-transaction.true c.in-Some.is c.requires c.put.ensures.put;
      places = c.put.ensures.places;
    }
