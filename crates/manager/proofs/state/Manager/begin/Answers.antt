use Rattle.std.proofs.Common.{◌+◌, ◌<◌, length, take, refl, ap, ◌∙◌, add-one, arith}
use Rattle.std.proofs.lemmas.List.{length-take-le}
use Rattle.ledger.specs.declared.entry.Transaction.{Transaction}
use Rattle.manager.specs.Book.{Book, book_of}
use Rattle.manager.specs.Ending.{Begun}
use Rattle.manager.proofs.Sounds.{pushed_there, sound_begun}
use Rattle.manager.proofs.state.Manager.begin.Goals as goal

pub returns : goal.returns
returns g c =
    let m = c.args.self.now in
    let x = c.args.memory.now in
    let z = c.in_ok-check_sizes.ensures in
    let zt = z.transactions in
    let n = m.last_transaction + 1 in
    let len = c.len.ensures in
    let lt : m.transactions.len < length x.transactions.now = omega arith in
    let long = length-take-le m.transactions.len x.transactions.now (omega arith) in
    let new : Transaction = record { number = n; planner = c.args.planner } in
    let p = pushed_there m.transactions.len x.transactions.now c.push.new.self.len c.push.new.memory new c.push.result lt c.push.ensures in
    let b = book_of m x in
    let b' : Book = record {
      transactions = take c.push.new.self.len c.push.new.memory;
      reservations = b.reservations;
      changes = b.changes;
      last_transaction = n;
      last_reservation = b.last_reservation;
      last_commit = b.last_commit;
      tally = b.tally;
    } in
    let begun : Begun c.args.planner b b' n = record {
      next = add-one m.last_transaction;
      book = ap (λ ts. record { transactions = ts; reservations = b.reservations; changes = b.changes; last_transaction = n; last_reservation = b.last_reservation; last_commit = b.last_commit; tally = b.tally }) p.1;
    } in
    record {
      answers = ((z, ((omega arith, omega arith), (omega arith, (omega arith, tt)))), begun);
      well = λ _. sound_begun m.signature.arities (g.K.Kind.means m.kind) b b' (c.requires z) c.args.planner n begun;
      fixed = record { signature = refl; kind = refl };
      sizes = λ z. record { transactions = c.push.auto.memory ∙ z.transactions; reservations = z.reservations; changes = z.changes };
    }
