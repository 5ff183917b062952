use Rattle.std.proofs.Common.{◌≡◌, ◌+◌, List, map, take, sym, subst}
use Rattle.maps.specs.Maps.{Figures}
use Rattle.terms.specs.declared.cell.Cell.{Cell}
use Rattle.terms.specs.Fitting.{Fits, described}
use Rattle.terms.specs.Rows.{decided}
use Rattle.serial.specs.Machine.{KeysOnce, with_own}
use Rattle.serial.proofs.Surveys.{survey_both}
use Rattle.ledger.specs.declared.entry.PendingChange.{PendingChange}
use Rattle.ledger.specs.Words.{pending_of}
use Rattle.manager.proofs.state.Manager.figures.Goals as goal

pub returns : goal.returns
returns g c =
    let m = c.args.self.now in
    let t = c.args.transaction in
    let s = c.args.store.now in
    let fits : List Cell → Type 0 = λ q. Fits m.signature.arities (g.K.Kind.means m.kind) q (described c.args.pattern.now) in
    let cs = c.entries-changes.result.now in
    let e : cs ≡ take m.changes.len c.args.memory.now.changes.now = c.entries-changes.ensures in
    let keys : KeysOnce (map pending_of cs) = subst (λ (l : List PendingChange). KeysOnce (map pending_of l)) (sym e) (c.requires.well c.requires.sizes).keys in
    record {
      figures = subst (λ (l : List PendingChange). Figures fits (with_own decided t (map pending_of l) (g.S.Store.means s)) (c.survey_store-stored.result.0 + c.survey_changes-changed.result.0) (c.survey_store-stored.result.1 + c.survey_changes-changed.result.1)) e
          (survey_both decided t (map pending_of cs) (g.S.Store.means s) fits keys (g.S.Store.rows s) (g.S.Store.listed s)
          c.survey_store-stored.result.0 c.survey_store-stored.result.1 c.survey_changes-changed.result.0 c.survey_changes-changed.result.1
          c.survey_store-stored.ensures.figures (c.survey_changes-changed.ensures.figures (g.S.Store.means s)));
      blank = c.survey_changes-changed.ensures.blank;
    }
