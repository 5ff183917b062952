use Rattle.std.proofs.Common.{refl, ◌∙◌, arith}
use Rattle.ledger.specs.declared.entry.Transaction.{Transaction}
use Rattle.manager.specs.Book.{book_of}
use Rattle.manager.proofs.Opens.{fewer}
use Rattle.manager.proofs.Sounds.{book_same}
use Rattle.manager.proofs.state.Manager.end.Goals as goal

pub returns : goal.returns
returns g c =
    let m = c.args.self.now in
    let x = c.args.memory.now in
    let b = book_of m x in
    let z = c.requires.transactions in
    let f = m.few in
    let w = c.remove.ensures.shorter in
    let k = c.remove.auto.memory in
    record {
      book = book_same _ _ _ _ _ _ b.last_transaction b.last_reservation b.last_commit b.tally c.remove.ensures.kept c.remove-2.ensures.kept c.remove-3.ensures.kept;
      fewer = fewer (λ (e : Transaction). e.number) c.args.transaction x.transactions.now c.remove.new.memory m.transactions.len c.remove.new.self.len (omega arith) (omega arith) c.remove.ensures.kept;
      fixed = record { signature = refl; kind = refl };
      sizes = λ z. record { transactions = c.remove.auto.memory ∙ z.transactions; reservations = c.remove-2.auto.memory ∙ z.reservations; changes = c.remove-3.auto.memory ∙ z.changes };
    }
