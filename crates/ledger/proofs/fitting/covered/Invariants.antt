use Rattle.std.proofs.Common.{take}
use Rattle.maps.specs.Maps.{In}
use Rattle.terms.specs.Fitting.{cells_of}
use Rattle.unification.specs.Sheets.{Blank}
use Rattle.ledger.specs.declared.entry.Reservation.{Reservation}
use Rattle.ledger.specs.Covering.{Covers}
use Rattle.ledger.proofs.fitting.covered.Given as goal

abbrev pub invariant-loop-held : goal.invariant-loop-held
invariant-loop-held g l =
    Blank l.sheet
    × ((h : Reservation) → In h (take l.held-index l.reservations) → ¬ Covers l.signature.arities (g.K.Kind.means l.kind) l.transaction (cells_of l.row) l.changing h)
