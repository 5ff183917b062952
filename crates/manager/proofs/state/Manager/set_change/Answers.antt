use Rattle.std.proofs.Common.{[], ◌∷◌, ◌++◌, take, set, is_some, refl, ap, ◌∙◌, subst, ap₂, inl, arith}
use Rattle.std.proofs.lemmas.List.{length-take-le, length-set}
use Rattle.std.proofs.lemmas.Bool.{both_ways}
use Rattle.terms.specs.Fitting.{cells_of}
use Rattle.ledger.specs.declared.entry.PendingChange.{PendingChange}
use Rattle.manager.specs.Book.{book_of}
use Rattle.ledger.specs.Covering.{For}
use Rattle.ledger.proofs.Entries.{set_take, pending_none, pending_at, entered_at, entered_end, rows_at, rows_end}
use Rattle.manager.proofs.state.Manager.set_change.Goals as goal

pub returns-in-Some : goal.returns-in-Some
returns-in-Some g c =
    let t = c.args.transaction in
    let n = c.args.self.now.changes.len in
    let xs = c.args.memory.now.changes.now in
    let q = cells_of c.args.row.now in
    let k = c.in-Some.place in
    let f = c.in-Some.ensures in
    let here = subst (For t q) f.there f.here in
    let new : PendingChange = record { owner = t; row = c.args.row.now; change = c.args.change } in
    let b = book_of c.args.self.now c.args.memory.now in
    record {
      answers = (
        ((λ _. ap is_some (pending_at t q (take n xs) k f.change f.within here f.before)), tt),
        record {
          entered = set (take n xs) k new;
          changes = entered_at t q c.args.row.now refl c.args.change (take n xs) k f.change f.within here f.before;
          rows = rows_at t q c.args.row.now refl c.args.change (take n xs) k;
          book = ap (λ cs. record { transactions = b.transactions; reservations = b.reservations; changes = cs; last_transaction = b.last_transaction; last_reservation = b.last_reservation; last_commit = b.last_commit; tally = b.tally }) (set_take xs n k new);
        },
      );
      fixed = record { signature = refl; kind = refl };
      sizes = λ z. record { transactions = z.transactions; reservations = z.reservations; changes = length-set xs k new ∙ z.changes };
    }

pub returns-in-Ok : goal.returns-in-Ok
returns-in-Ok g c =
    let t = c.args.transaction in
    let n = c.args.self.now.changes.len in
    let xs = c.args.memory.now.changes.now in
    let q = cells_of c.args.row.now in
    let z = c.requires.changes in
    let p = c.in-Ok.ensures in
    let lt = p.0 in
    let long = length-take-le n xs (omega arith) in
    let new : PendingChange = record { owner = t; row = c.args.row.now; change = c.args.change } in
    let b = book_of c.args.self.now c.args.memory.now in
    record {
      answers = (
        ((λ e. absurd (omega arith)), tt),
        record {
          entered = take n xs ++ (new ∷ []);
          changes = entered_end t q c.args.row.now refl c.args.change (take n xs) c.in-None.ensures;
          rows = rows_end t q c.args.row.now refl c.args.change (take n xs);
          book = ap (λ cs. record { transactions = b.transactions; reservations = b.reservations; changes = cs; last_transaction = b.last_transaction; last_reservation = b.last_reservation; last_commit = b.last_commit; tally = b.tally }) p.2;
        },
      );
      fixed = record { signature = refl; kind = refl };
      sizes = λ z. record { transactions = z.transactions; reservations = z.reservations; changes = c.push.auto.memory ∙ z.changes };
    }

pub returns-in-Err : goal.returns-in-Err
returns-in-Err g c =
    let t = c.args.transaction in
    let n = c.args.self.now.changes.len in
    let xs = c.args.memory.now.changes.now in
    let q = cells_of c.args.row.now in
    let z = c.requires.changes in
    let p = c.in-Err.ensures in
    let full = p.0 in
    let long = length-take-le n xs (omega arith) in
    let b = book_of c.args.self.now c.args.memory.now in
    record {
      answers = (
        inl (refl, λ h. both_ways _ (ap is_some (pending_none t q (take n xs) c.in-None.ensures)) (h (omega arith))),
        ap (λ cs. record { transactions = b.transactions; reservations = b.reservations; changes = cs; last_transaction = b.last_transaction; last_reservation = b.last_reservation; last_commit = b.last_commit; tally = b.tally }) (ap₂ take p.1 p.2),
      );
      fixed = record { signature = refl; kind = refl };
      sizes = λ z. record { transactions = z.transactions; reservations = z.reservations; changes = c.push.auto.memory ∙ z.changes };
    }
