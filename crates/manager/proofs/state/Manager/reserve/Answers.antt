use Rattle.std.proofs.Common.{◌≡◌, ◌+◌, ◌<◌, ◌≤◌, min, length, take, refl, ap, ◌∙◌, subst, inl, inr, add-one, arith}
use Rattle.std.proofs.lemmas.List.{length-take-le}
use Rattle.std.proofs.lemmas.Result.{err_from_is_err_and}
use Rattle.terms.specs.Fitting.{Description, described}
use Rattle.terms.specs.Proper.{ProperPattern}
use Rattle.ledger.specs.declared.entry.Reservation.{Reservation}
use Rattle.ledger.specs.Words.{right_of}
use Rattle.manager.specs.Book.{Book, book_of}
use Rattle.manager.specs.Reserving.{Reserved, tallied}
use Rattle.manager.proofs.Reserves.{clear, holds, conflicted}
use Rattle.manager.proofs.Sounds.{pushed_there, sound_reserved, sound_tallied}
use Rattle.manager.proofs.state.Manager.reserve.Goals as goal

pub returns-in_err-pattern : goal.returns-in_err-pattern
returns-in_err-pattern g c =
    let p = err_from_is_err_and c.from_residual-in_err-pattern.result c.from_residual-in_err-pattern.ensures.1 in
    rw (p.1, p.2) (record {
      answers = (inr (c.in_ok-check_sizes.ensures, inr (c.in_ok-check_open.ensures, inr ((right_of c.in_ok-right.right, c.in_ok-right.ensures), inl (c.in_err-pattern.field-0.0, refl, c.in_err-pattern.ensures)))), (refl, refl));
      blank = refl;
      well = c.requires;
      fixed = record { signature = refl; kind = refl };
      sizes = λ z. z;
    })

pub returns-in-Some : goal.returns-in-Some
returns-in-Some g c =
    let m = c.args.self.now in
    let x = c.args.memory.now in
    let sig = m.signature.arities in
    let M = g.K.Kind.means m.kind in
    let z = c.in_ok-check_sizes.ensures in
    let zr = z.reservations in
    let s0 = m.some in
    let len = c.len.ensures in
    let w = right_of c.in_ok-right.right in
    let named = c.in_ok-right.ensures in
    let p : Description = record { cells = c.args.cells.now; constraints = c.args.constraints.now } in
    let read = c.in_ok-pattern.ensures in
    let few : m.reservations.len ≤ length x.reservations.now = omega arith in
    let long = length-take-le m.reservations.len x.reservations.now few in
    let first = c.in-Some.ensures.answer in
    let b = book_of m x in
    let b' : Book = record {
      transactions = b.transactions;
      reservations = b.reservations;
      changes = b.changes;
      last_transaction = b.last_transaction;
      last_reservation = b.last_reservation;
      last_commit = b.last_commit;
      tally = c.min-self.result;
    } in
    let e : b' ≡ tallied b = ap (λ y. record { transactions = b.transactions; reservations = b.reservations; changes = b.changes; last_transaction = b.last_transaction; last_reservation = b.last_reservation; last_commit = b.last_commit; tally = y }) (c.min-self.ensures ∙ ap (λ y. min y 999999999) (add-one m.tally)) in
    record {
      answers = (
        inr (
          z,
          inr (
            c.in_ok-check_open.ensures,
            inr (
              (w, named),
              inr (
                subst (ProperPattern sig M) read.0 read.1,
                inr (
                  omega arith,
                  inr (
                    omega arith,
                    inl (holds sig M c.args.transaction c.args.right w named p (described c.in_ok-pattern.pattern) read.0 x.reservations.now m.reservations.len few c.in-Some.clash first c.index-memory-clash.result),
                  ),
                ),
              ),
            ),
          ),
        ),
        conflicted sig M c.args.transaction c.args.right w named p (described c.in_ok-pattern.pattern) read.0 x.reservations.now m.reservations.len few c.in-Some.clash first c.index-memory-clash.result b b' refl e,
      );
      blank = c.own_clash.ensures.blank;
      well = λ _. sound_tallied sig M b b' (c.requires z) e;
      fixed = record { signature = refl; kind = refl };
      sizes = λ z. z;
    }

pub returns : goal.returns
returns g c =
    let m = c.args.self.now in
    let x = c.args.memory.now in
    let sig = m.signature.arities in
    let M = g.K.Kind.means m.kind in
    let z = c.in_ok-check_sizes.ensures in
    let zr = z.reservations in
    let s0 = m.some in
    let len = c.len.ensures in
    let w = right_of c.in_ok-right.right in
    let named = c.in_ok-right.ensures in
    let p : Description = record { cells = c.args.cells.now; constraints = c.args.constraints.now } in
    let read = c.in_ok-pattern.ensures in
    let proper : ProperPattern sig M p = subst (ProperPattern sig M) read.0 read.1 in
    let n = m.last_reservation + 1 in
    let lt : m.reservations.len < length x.reservations.now = omega arith in
    let long = length-take-le m.reservations.len x.reservations.now (omega arith) in
    let new : Reservation = record { number = n; owner = c.args.transaction; right = c.in_ok-right.right; pattern = c.in_ok-pattern.pattern } in
    let pushed = pushed_there m.reservations.len x.reservations.now c.push.new.self.len c.push.new.memory new c.push.result lt c.push.ensures in
    let b = book_of m x in
    let b' : Book = record {
      transactions = b.transactions;
      reservations = take c.push.new.self.len c.push.new.memory;
      changes = b.changes;
      last_transaction = b.last_transaction;
      last_reservation = n;
      last_commit = b.last_commit;
      tally = b.tally;
    } in
    let reserved : Reserved c.args.transaction c.args.right p b b' n = record {
      entry = new;
      owner = refl;
      right = named;
      pattern = read.0;
      numbered = refl;
      next = add-one m.last_reservation;
      book = ap (λ rs. record { transactions = b.transactions; reservations = rs; changes = b.changes; last_transaction = b.last_transaction; last_reservation = n; last_commit = b.last_commit; tally = b.tally }) pushed.1;
    } in
    record {
      answers = (
        (
          z,
          (
            c.in_ok-check_open.ensures,
            (
              (w, named),
              (
                proper,
                (
                  omega arith,
                  (
                    omega arith,
                    (clear sig M c.args.transaction c.args.right w named p (described c.in_ok-pattern.pattern) read.0 b.reservations c.in_default.ensures.answer, tt),
                  ),
                ),
              ),
            ),
          ),
        ),
        (reserved, refl),
      );
      blank = c.own_clash.ensures.blank;
      well = λ _. sound_reserved sig M b b' (c.requires z) c.args.transaction c.args.right n p proper reserved;
      fixed = record { signature = refl; kind = refl };
      sizes = λ z. record { transactions = z.transactions; reservations = c.push.auto.memory ∙ z.reservations; changes = z.changes };
    }
