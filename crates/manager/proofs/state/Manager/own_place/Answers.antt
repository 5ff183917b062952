use Rattle.std.proofs.Common.{List, subst, MatchOption}
use Rattle.maps.specs.Maps.{In}
use Rattle.terms.specs.Fitting.{cells_of}
use Rattle.ledger.specs.declared.entry.PendingChange.{PendingChange}
use Rattle.ledger.specs.Covering.{For, FirstFor}
use Rattle.manager.proofs.state.Manager.own_place.Goals as goal

pub returns : goal.returns
returns g c =
    subst (λ (l : List PendingChange). MatchOption c.place_of.result ((x : PendingChange) → In x l → ¬ For c.args.transaction (cells_of c.args.row.now) x) (FirstFor c.args.transaction (cells_of c.args.row.now) l)) c.entries.ensures c.place_of.ensures
