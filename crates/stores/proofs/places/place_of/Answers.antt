use Rattle.std.proofs.Common.{rules, tests}
use Rattle.std.proofs.lemmas.Iterator.{YieldsList-from_slice}
use Rattle.std.proofs.lemmas.Iterator.Search.{position_from_yields_List}
use Rattle.terms.specs.Fitting.{cells_of}
use Rattle.stores.specs.Places.{hits}
use Rattle.stores.specs.Table as table
use Rattle.stores.proofs.Finding.{place_found}
use Rattle.stores.proofs.places.place_of.Goals as goal

pub returns : goal.returns
returns c =
    let rs = c.args.records.now in
    let q = cells_of c.args.key.now in
    place_found q rs c.position.result
    (position_from_yields_List (λ r. hits (table.place_of r) q) _ _ c.position.result c.position.ensures.ran (YieldsList-from_slice rs cc) (λ x b q k. search (rules, tests)))
