use Rattle.std.proofs.Common.{◌≡◌, ◌+◌, ap, ◌∙◌, add-one, arith}
use Rattle.manager.specs.Book.{Book, Fixed, book_of}
use Rattle.manager.specs.Ending.{ended}
use Rattle.manager.proofs.Sounds.{fixed_sound, sound_ended}
use Rattle.manager.proofs.state.Manager.commit.Goals as goal

pub invariant_of-self : goal.invariant_of-self
invariant_of-self g c =
    let m = c.args.self.now in
    let m' = c.end.new.self in
    let e0 = m.ended in
    let less = c.end.ensures.fewer c.in_ok-check_open.ensures in
    let k : m'.last_commit ≡ m.last_commit = ap (λ b. b.last_commit) c.end.ensures.book in
    let t : m'.last_transaction ≡ m.last_transaction = ap (λ b. b.last_transaction) c.end.ensures.book in
    let f0 = m'.few in
    let s0 = m'.some in
    let m0 = m'.many in
    let b0 = m'.begun in
    let r0 = m'.reserved in
    let t0 = m'.tallied in
    record {
      few = omega arith;
      some = omega arith;
      many = omega arith;
      ended = omega arith;
      begun = omega arith;
      reserved = omega arith;
      tallied = omega arith;
    }

pub returns : goal.returns
returns g c =
    let m = c.args.self.now in
    let m' = c.end.new.self in
    let x = c.args.memory.now in
    let z = c.in_ok-check_sizes.ensures in
    let r = c.in_ok-enter_own.ensures in
    let b = book_of m x in
    let c' = book_of m' c.end.new.memory in
    let n = m'.last_commit + 1 in
    let k : m'.last_commit ≡ m.last_commit = ap (λ b. b.last_commit) c.end.ensures.book in
    let b' : Book = record {
      transactions = c'.transactions;
      reservations = c'.reservations;
      changes = c'.changes;
      last_transaction = c'.last_transaction;
      last_reservation = c'.last_reservation;
      last_commit = n;
      tally = c'.tally;
    } in
    let e : b' ≡ ended c.args.transaction n b = ap (λ y. record {
      transactions = y.transactions;
      reservations = y.reservations;
      changes = y.changes;
      last_transaction = y.last_transaction;
      last_reservation = y.last_reservation;
      last_commit = n;
      tally = y.tally;
    }) c.end.ensures.book in
    let f : Fixed m m' = record { signature = c.end.ensures.fixed.signature; kind = c.end.ensures.fixed.kind } in
    record {
      answers = ((z, (c.in_ok-check_open.ensures, (r.2, tt))), record { next = ap (λ y. y + 1) k ∙ add-one m.last_commit; store = r.0; book = e });
      places = r.1;
      well = λ _. fixed_sound g.K.Kind.means m m' b' f (sound_ended m.signature.arities (g.K.Kind.means m.kind) b b' (c.requires z) c.args.transaction n e);
      fixed = record { signature = f.signature; kind = f.kind };
      sizes = c.end.ensures.sizes;
    }
