use Rattle.std.proofs.Common.{◌+◌, ◌-◌, ◌*◌, ◌/◌, refl, ap, arith}
use borrow.Rule.Slice.PartMut.{put_mid}
use Rattle.terms.specs.Fitting.{cells_of}
use Rattle.image.specs.Meaning.{lines_in}
use Rattle.image.specs.Tested.{tested_shows}
use Rattle.image.proofs.Changing.{sound_image, drop_line, kept}
use Rattle.image.proofs.image.ImageStore.remove.Goals as goal

pub invariant_of-self : goal.invariant_of-self
invariant_of-self c =
    let t = c.args.self.now in
    let xs = t.lines.bytes.now in
    let k = c.in-Some.k in
    let m = (k * 128 + 128) - k * 128 in
    let ys = put_mid (k * 128) m xs c.write_blank_line.new.line in
    let s = (drop_line xs (sound_image t) (cells_of c.args.key.now) k m (omega arith) c.write_blank_line.new.line c.write_blank_line.ensures c.in-Some.ensures).sound in
    record { whole = s.whole; some = s.allowed.0; few = s.allowed.1; shown = tested_shows (lines_in ys) ys s.shows; apart = s.apart }

pub returns-in-Some : goal.returns-in-Some
returns-in-Some c =
    let t = c.args.self.now in
    let k = c.in-Some.k in
    let e = drop_line t.lines.bytes.now (sound_image t) (cells_of c.args.key.now) k ((k * 128 + 128) - k * 128) (omega arith) c.write_blank_line.new.line c.write_blank_line.ensures c.in-Some.ensures in
    record { dropped = e.dropped; places = ap (λ m. m / 128) e.long; lines = e.lines }

pub returns-in-None : goal.returns-in-None
returns-in-None c =
    let t = c.args.self.now in
    let e = kept t.lines.bytes.now (sound_image t) (cells_of c.args.key.now) c.in-None.ensures in
    record { dropped = e.dropped; places = refl; lines = refl }
