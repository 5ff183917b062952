use Rattle.std.proofs.Common.{take}
use Rattle.maps.specs.Maps.{In}
use Rattle.terms.specs.Fitting.{described}
use Rattle.unification.specs.Sheets.{Blank}
use Rattle.ledger.specs.declared.entry.Reservation.{Reservation}
use Rattle.ledger.specs.Words.{right_of}
use Rattle.ledger.specs.Clashes.{Clashing, request}
use Rattle.ledger.proofs.clash.first_clash.Given as goal

abbrev pub invariant-loop-index : goal.invariant-loop-index
invariant-loop-index g l =
    Blank l.sheet
    × ((h : Reservation) → In h (take l.index l.reservations) → ¬ Clashing l.signature.arities (g.K.Kind.means l.kind) (request l.transaction (right_of l.right) (described l.pattern)) h)
