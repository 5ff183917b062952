use Rattle.std.proofs.Common.{[], sym}
use Rattle.terms.specs.Fitting.{cells_of}
use Rattle.stores.proofs.Writes.{none_find}
use Rattle.image.specs.Meaning.{entries}
use Rattle.image.proofs.Arrays.{line_of}
use Rattle.image.proofs.Changing.{sound_image, count_found}
use Rattle.image.proofs.image.ImageStore.find.Goals as goal

pub returns-in_err-k : goal.returns-in_err-k
returns-in_err-k c = rw c.from_residual.ensures (sym (none_find (entries c.args.self.now.lines.bytes.now) (cells_of c.args.key.now) c.in_err-k.ensures))

pub returns : goal.returns
returns c =
    let t = c.args.self.now in
    let xs = t.lines.bytes.now in
    let k = c.in_ok-k.k in
    let at = c.in_ok-k.ensures in
    count_found xs (sound_image t) (cells_of c.args.key.now) k at _ (line_of xs c.lines_of.result.now c.lines_of.ensures.lines k [] at.within) c.read_count.result c.read_count.ensures
