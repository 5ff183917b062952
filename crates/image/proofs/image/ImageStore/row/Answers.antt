use Rattle.std.proofs.Common.{None, Some, sym, ap, ◌∙◌}
use Rattle.std.specs.Option.{option_map}
use Rattle.terms.specs.Rows.{Storable}
use Rattle.stores.specs.Places.{held}
use Rattle.stores.proofs.Puts.{row_rows, row_look}
use Rattle.image.specs.Meaning.{entries, Shows}
use Rattle.image.proofs.Arrays.{nth_row}
use Rattle.image.proofs.Changing.{sound_image}
use Rattle.image.proofs.image.ImageStore.row.Goals as goal

pub returns-in_err-nth_taken-clause-row : goal.returns-in_err-nth_taken-clause-row
returns-in_err-nth_taken-clause-row c =
    let t = c.args.self.now in
    let hs = held (entries t.lines.bytes.now) in
    let h = nth_row t.lines.bytes.now (Shows Storable) (sound_image t).shows c.args.k None (ap (option_map (λ l. l.now)) (sym c.in_err-nth_taken.was) ∙ c.nth_taken.ensures) in
    rw c.from_residual.ensures (row_rows hs c.args.k None (sym h))

pub read_line-requires : goal.read_line-requires
read_line-requires c =
    let t = c.args.self.now in
    (nth_row t.lines.bytes.now (Shows Storable) (sound_image t).shows c.args.k (Some c.in_ok-nth_taken.field-0.now) (ap (option_map (λ l. l.now)) (sym c.in_ok-nth_taken.was) ∙ c.nth_taken.ensures)).0

pub returns : goal.returns
returns c =
    let t = c.args.self.now in
    let hs = held (entries t.lines.bytes.now) in
    let h = nth_row t.lines.bytes.now (Shows Storable) (sound_image t).shows c.args.k (Some c.in_ok-nth_taken.field-0.now) (ap (option_map (λ l. l.now)) (sym c.in_ok-nth_taken.was) ∙ c.nth_taken.ensures) in
    record {
      row = row_rows hs c.args.k c.read_line.result (c.read_line.ensures ∙ h.1);
      count = row_look hs t.apart c.args.k c.read_line.result (c.read_line.ensures ∙ h.1);
    }
