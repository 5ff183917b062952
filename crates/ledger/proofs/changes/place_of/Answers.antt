use Rattle.std.proofs.Common.{◌≡◌, Bool, ◌&&◌, nat_eq, Decides, rules, tests}
use Rattle.std.proofs.lemmas.Bool.Decides.{Decides-and, Decides-eqb}
use Rattle.std.proofs.lemmas.Iterator.{YieldsList-from_slice}
use Rattle.std.proofs.lemmas.Iterator.Search.{position_from_yields_List}
use Rattle.terms.specs.Equality.{cells_eq}
use Rattle.terms.specs.Fitting.{cells_of}
use Rattle.terms.specs.Rows.{cells_eq_decides}
use Rattle.ledger.specs.declared.entry.PendingChange.{PendingChange}
use Rattle.ledger.specs.Covering.{FirstFor, For}
use Rattle.maps.proofs.Finding.{first_found}
use Rattle.ledger.proofs.changes.place_of.Goals as goal

pub returns : goal.returns
returns c =
    let t = c.args.transaction in
    let q = cells_of c.args.row.now in
    let cs = c.args.changes.now in
    let test : PendingChange → Bool = λ x. nat_eq x.owner t && cells_eq (cells_of x.row) q in
    let decides : (x : PendingChange) → Decides (test x) (For t q x) = λ x. Decides-and (nat_eq x.owner t) (cells_eq (cells_of x.row) q) (Decides-eqb x.owner t) (cells_eq_decides (cells_of x.row) q) in
    let at : c.position.result ≡ _ = position_from_yields_List test _ _ c.position.result c.position.ensures.ran (YieldsList-from_slice cs cc) (λ x b p k. search (rules, tests)) in
    first_found (For t q) test decides cs (FirstFor t q cs)
    (λ k x within there here before. record { change = x; within = within; there = there; here = here; before = before }) c.position.result at
