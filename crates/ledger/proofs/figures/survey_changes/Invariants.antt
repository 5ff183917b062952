use Rattle.std.proofs.Common.{◌*◌, ◌≤◌, List, map, take}
use Rattle.maps.specs.Maps.{Figures, Map}
use Rattle.terms.specs.declared.cell.Cell.{Cell}
use Rattle.terms.specs.Fitting.{Fits, described}
use Rattle.terms.specs.Rows.{decided}
use Rattle.unification.specs.Sheets.{Blank}
use Rattle.serial.specs.Machine.{with_own}
use Rattle.serial.specs.Surveys.{Changed}
use Rattle.ledger.specs.Words.{pending_of}
use Rattle.ledger.proofs.figures.survey_changes.Given as goal

abbrev pub invariant-loop-change : goal.invariant-loop-change
invariant-loop-change g l =
    Blank l.sheet
    × ((m : Map (List Cell)) → Figures (Changed l.transaction (λ q. Fits l.signature.arities (g.K.Kind.means l.kind) q (described l.pattern)) (map pending_of (take l.change-index l.changes))) (with_own decided l.transaction (map pending_of l.changes) m) l.number l.total)
    × (l.number ≤ l.change-index)
    × (l.total ≤ l.change-index * 999999)
