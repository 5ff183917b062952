use Rattle.std.proofs.Common.{not, rules, tests}
use Rattle.std.proofs.lemmas.Iterator.{YieldsList-from_slice}
use Rattle.std.proofs.lemmas.Iterator.Search.{position_from_yields_List}
use Rattle.stores.specs.Places.{taken}
use Rattle.stores.specs.Table.{place_of}
use Rattle.stores.proofs.Finding.{free_found}
use Rattle.stores.proofs.places.free_place.Goals as goal

pub returns : goal.returns
returns c =
    let rs = c.args.records.now in
    free_found rs c.position.result
    (position_from_yields_List (λ r. not (taken (place_of r))) _ _ c.position.result c.position.ensures.ran (YieldsList-from_slice rs cc) (λ x b q k. search (rules, tests)))
