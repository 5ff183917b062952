use Rattle.image.specs.Meaning.{lines_in}
use Rattle.image.specs.Tested.{tested_shows}
use Rattle.image.proofs.memory.Lines.into_store.Goals as goal

pub invariant_of-result : goal.invariant_of-result
invariant_of-result c =
    let xs = c.args.self.bytes.now in
    let s = c.requires in
    record { whole = s.whole; some = s.allowed.0; few = s.allowed.1; shown = tested_shows (lines_in xs) xs s.shows; apart = s.apart }
