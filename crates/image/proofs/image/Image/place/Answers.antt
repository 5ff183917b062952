use Rattle.std.proofs.Common.{sym, ◌∙◌, take, arith}
use Rattle.terms.specs.Fitting.{cells_of}
use Rattle.terms.proofs.Storing.{storable_row}
use Rattle.image.specs.Meaning.{lines_in}
use Rattle.image.proofs.Arrays.{all_lines, front_at}
use Rattle.image.proofs.Changing.{sound_image, row_front, placed}
use Rattle.image.proofs.image.Image.place.Goals as goal

pub returns : goal.returns
returns c =
    let t = c.args.self.now in
    let xs = t.lines.bytes.now in
    let q = cells_of c.args.key.now in
    let fit = storable_row c.args.key.now in
    let front = take 120 c.encode.new.line in
    placed xs (sound_image t) q fit front (row_front q _ fit c.encode.ensures) c.place_of.result
    (front_at xs front (lines_in xs) c.lines_of.result.now (c.lines_of.ensures.lines ∙ sym (all_lines xs)) (omega arith) c.place_of.result c.place_of.ensures)
