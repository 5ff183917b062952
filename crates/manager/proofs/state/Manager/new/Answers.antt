use Rattle.std.proofs.Common.{◌≡◌, [], take, refl, ap}
use Rattle.manager.specs.Book.{Book}
use Rattle.manager.specs.New.{fresh}
use Rattle.manager.proofs.Sounds.{book_same, sound_fresh}
use Rattle.manager.proofs.state.Manager.new.Goals as goal

pub returns : goal.returns
returns g c =
    let x = c.args.memory.now in
    let ts = take c.new-2.result.len x.transactions.now in
    let rs = take c.new-3.result.len x.reservations.now in
    let cs = take c.new-4.result.len x.changes.now in
    let b : Book = record { transactions = ts; reservations = rs; changes = cs; last_transaction = 0; last_reservation = 0; last_commit = 0; tally = 0 } in
    let e : b ≡ fresh = book_same ts [] rs [] cs [] 0 0 0 0 (ap (λ n. take n x.transactions.now) c.new-2.ensures) (ap (λ n. take n x.reservations.now) c.new-3.ensures) (ap (λ n. take n x.changes.now) c.new-4.ensures) in
    let read = c.in_ok-signature.ensures in
    record {
      answers = ((c.in_ok-check_sizes.ensures, (read.1, tt)), record { signature = read.0; kind = refl; book = e });
      well = λ _. sound_fresh c.in_ok-signature.signature.arities (g.K.Kind.means c.args.kind) b e;
    }
