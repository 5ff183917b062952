use Rattle.std.proofs.Common.{◌≡◌, ◌<◌, ◌/◌, [], length, get_or, sym, ◌∙◌, arith}
use Rattle.std.proofs.lemmas.Grind.{common_steps}
use Rattle.lists.specs.Lists.{items}
use Rattle.image.specs.Lines.{field}
use Rattle.image.proofs.Arrays.{field_of}
use Rattle.image.proofs.Slots.{begun_none, begun_more, scanned_from}
use Rattle.image.proofs.scan.read_cells.Goals as goal

pub loop-field-init : goal.loop-field-init
loop-field-init c = begun_none c.args.line.now _ c.new-found.ensures

-- by whatever steps the loop goes over the fields of the line
pub returns-in-None : goal.returns-in-None
returns-in-None c =
    let line = c.args.line.now in
    let k = c.loop-field.field-index in
    let f = c.as_chunks.ensures in
    let within : k < length line / 10 = grind (arith, common_steps) in
    let p : get_or c.as_chunks.result.0.now k [] ≡ field k line = field_of line c.as_chunks.result.0.now f.front k [] within in
    scanned_from line (items c.loop-field.found) k c.loop-field.invariant (omega arith) (λ _ cell s e. c.in-None.ensures cell s (grind (arith, common_steps) ∙ p ∙ e))

pub loop-field-preserved : goal.loop-field-preserved
loop-field-preserved c =
    let line = c.args.line.now in
    let k = c.loop-field.field-index in
    let f = c.as_chunks.ensures in
    let within : k < length line / 10 = grind (arith, common_steps) in
    let p : get_or c.as_chunks.result.0.now k [] ≡ field k line = field_of line c.as_chunks.result.0.now f.front k [] within in
    let e = c.in-Some.ensures in
    begun_more line (items c.loop-field.found) _ c.in-Some.cell k c.loop-field.invariant c.push.ensures (sym p ∙ grind (arith, common_steps) ∙ e.0) e.1
