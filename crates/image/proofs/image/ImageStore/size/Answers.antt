use Rattle.std.proofs.Common.{sym, ◌∙◌}
use Rattle.stores.specs.Places.{held}
use Rattle.stores.specs.Maps.{rows_length, held_length}
use Rattle.image.specs.Meaning.{entries}
use Rattle.image.proofs.image.ImageStore.size.Goals as goal

pub returns-clause-rows : goal.returns-clause-rows
returns-clause-rows c =
    let ps = entries c.args.self.now.lines.bytes.now in
    c.used_lines.ensures ∙ sym (rows_length (held ps) ∙ held_length ps)
