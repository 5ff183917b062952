use Rattle.std.proofs.Common.{ap, sym, ◌∙◌}
use Rattle.std.specs.Option.{option_map}
use Rattle.terms.specs.Fitting.{cells_of}
use Rattle.stores.specs.Means.{count_of}
use Rattle.stores.proofs.Finding.{count_found, count_missing}
use Rattle.stores.proofs.places.count_in.Goals as goal

pub returns-in_err-place : goal.returns-in_err-place
returns-in_err-place c = ap (option_map count_of) c.from_residual.ensures ∙ sym (count_missing c.args.records.now (cells_of c.args.key.now) c.in_err-place.ensures)

pub returns-in_err-entry : goal.returns-in_err-entry
returns-in_err-entry c =
    let h = c.in_ok-place.ensures in
    ap (option_map count_of) c.from_residual-in_err-entry.ensures
    ∙ ap (option_map (λ e. count_of e.count)) (sym c.in_err-entry.was)
    ∙ count_found c.args.records.now (cells_of c.args.key.now) c.in_ok-place.place c.index-records-place.result h.0 h.1 h.2 c.index-records-place.is

pub returns : goal.returns
returns c =
    let h = c.in_ok-place.ensures in
    ap (option_map (λ e. count_of e.count)) (sym c.in_ok-entry.was)
    ∙ count_found c.args.records.now (cells_of c.args.key.now) c.in_ok-place.place c.index-records-place.result h.0 h.1 h.2 c.index-records-place.is
