use Rattle.manager.specs.Book.{Fixed, book_of}
use Rattle.manager.proofs.Sounds.{fixed_sound, sound_ended}
use Rattle.manager.proofs.state.Manager.abandon.Goals as goal

pub returns : goal.returns
returns g c =
    let m = c.args.self.now in
    let m' = c.end.new.self in
    let x = c.args.memory.now in
    let z = c.in_ok-check_sizes.ensures in
    let b = book_of m x in
    let b' = book_of m' c.end.new.memory in
    let f : Fixed m m' = record { signature = c.end.ensures.fixed.signature; kind = c.end.ensures.fixed.kind } in
    record {
      answers = ((z, (c.in_ok-check_open.ensures, tt)), record { counted = c.count_changes-number.ensures; book = c.end.ensures.book });
      well = λ _. fixed_sound g.K.Kind.means m m' b' f (sound_ended m.signature.arities (g.K.Kind.means m.kind) b b' (c.requires z) c.args.transaction b.last_commit c.end.ensures.book);
      fixed = record { signature = f.signature; kind = f.kind };
      sizes = c.end.ensures.sizes;
    }
