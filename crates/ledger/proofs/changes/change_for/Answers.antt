use Rattle.std.proofs.Common.{sym, ap, ◌∙◌, subst}
use Rattle.std.specs.Option.{option_map}
use Rattle.terms.specs.Fitting.{cells_of}
use Rattle.std.proofs.lemmas.List.{get_or_default}
use Rattle.ledger.specs.Covering.{For}
use Rattle.ledger.specs.Words.{change_of}
use Rattle.ledger.proofs.Entries.{pending_none, pending_at}
use Rattle.ledger.proofs.changes.change_for.Goals as goal

pub returns-in_err-place : goal.returns-in_err-place
returns-in_err-place c =
    ap (option_map change_of) c.from_residual.ensures ∙ sym (pending_none c.args.transaction (cells_of c.args.row.now) c.args.changes.now c.in_err-place.ensures)

pub returns : goal.returns
returns c =
    let f = c.in_ok-place.ensures in
    let q = cells_of c.args.row.now in
    let cs = c.args.changes.now in
    let k = c.in_ok-place.place in
    let d = c.index-changes-place.result in
    sym (pending_at c.args.transaction q cs k d f.within (subst (For c.args.transaction q) (f.there ∙ get_or_default cs k f.change d f.within) f.here) f.before)
