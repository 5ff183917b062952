use Rattle.std.proofs.Common.{◌+◌, ◌-◌, ◌*◌, ◌/◌, refl, ap, arith}
use borrow.Rule.Slice.PartMut.{put_mid}
use Rattle.terms.specs.Fitting.{cells_of}
use Rattle.terms.proofs.Storing.{storable_row}
use Rattle.image.specs.Meaning.{lines_in}
use Rattle.image.specs.Tested.{tested_shows}
use Rattle.image.proofs.Changing.{sound_image, put_line, full}
use Rattle.image.proofs.image.ImageStore.put.Goals as goal

pub invariant_of-self : goal.invariant_of-self
invariant_of-self c =
    let t = c.args.self.now in
    let xs = t.lines.bytes.now in
    let k = c.in-Some.k in
    let m = (k * 128 + 128) - k * 128 in
    let ys = put_mid (k * 128) m xs c.encode.new.line in
    let s = (put_line xs (sound_image t) (cells_of c.args.key.now) k m (omega arith) c.encode.new.line (storable_row c.args.key.now) c.args.count c.encode.ensures c.in-Some.ensures).sound in
    record { whole = s.whole; some = s.allowed.0; few = s.allowed.1; shown = tested_shows (lines_in ys) ys s.shows; apart = s.apart }

pub returns : goal.returns
returns c =
    let t = c.args.self.now in
    let k = c.in-Some.k in
    let e = put_line t.lines.bytes.now (sound_image t) (cells_of c.args.key.now) k ((k * 128 + 128) - k * 128) (omega arith) c.encode.new.line (storable_row c.args.key.now) c.args.count c.encode.ensures c.in-Some.ensures in
    record { put = e.put; places = ap (λ m. m / 128) e.long; lines = e.lines }

pub returns-in_default : goal.returns-in_default
returns-in_default c =
    let t = c.args.self.now in
    let e = full t.lines.bytes.now (sound_image t) (cells_of c.args.key.now) c.args.count.value c.in_default.ensures.0 c.in_default.ensures.1 in
    record { put = e.put; places = refl; lines = refl }
