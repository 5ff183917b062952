use Rattle.std.proofs.Common.{◌*◌, ◌≤◌, map, take}
use Rattle.maps.specs.Maps.{Figures}
use Rattle.terms.specs.Fitting.{Fits, described}
use Rattle.terms.specs.Rows.{decided}
use Rattle.unification.specs.Sheets.{Blank}
use Rattle.serial.specs.Machine.{with_own}
use Rattle.serial.specs.Surveys.{Unchanged}
use Rattle.ledger.specs.Words.{pending_of}
use Rattle.ledger.proofs.figures.survey_store.Given as goal

abbrev pub invariant-loop-k : goal.invariant-loop-k
invariant-loop-k g l =
    Blank l.sheet
    × Figures (Unchanged decided l.transaction (map pending_of l.changes) (λ q. Fits l.signature.arities (g.K.Kind.means l.kind) q (described l.pattern)) (take l.k (g.S.Store.rows l.store))) (with_own decided l.transaction (map pending_of l.changes) (g.S.Store.means l.store)) l.number l.total
    × (l.number ≤ l.k)
    × (l.total ≤ l.k * 999999)
