use Rattle.std.proofs.Common.{sym, refl, ◌∙◌}
use Rattle.stores.specs.Places.{held}
use Rattle.stores.specs.Maps.{rows_length, held_length}
use Rattle.stores.specs.Table.{contents}
use Rattle.stores.proofs.table.TableStore.size.Goals as goal

pub returns : goal.returns
returns c =
    let ps = contents c.args.self.now.records.now in
    record { places = refl; rows = c.used_places.ensures ∙ sym (rows_length (held ps) ∙ held_length ps) }
