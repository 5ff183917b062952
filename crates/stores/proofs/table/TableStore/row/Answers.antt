use Rattle.stores.specs.Places.{held}
use Rattle.stores.specs.Table.{contents}
use Rattle.stores.proofs.Puts.{row_rows, row_look}
use Rattle.stores.proofs.table.TableStore.row.Goals as goal

pub returns : goal.returns
returns c =
    let t = c.args.self.now in
    let hs = held (contents t.records.now) in
    record {
      row = row_rows hs c.args.k c.used_row.result c.used_row.ensures;
      count = row_look hs t.apart c.args.k c.used_row.result c.used_row.ensures;
    }
