use Rattle.std.proofs.Common.{false, [], ◌∷◌, sym, refl, ap, ◌∙◌, subst, inl}
use Rattle.std.proofs.lemmas.Result.{err_from_is_err_and}
use Rattle.terms.specs.Proper.{RowCells}
use Rattle.ledger.specs.Covering.{Covered}
use Rattle.manager.specs.Book.{book_of}
use Rattle.manager.specs.Checks.{unless}
use Rattle.manager.specs.declared.fault.ManagerFault.TheVariants.{NoneFits}
use Rattle.manager.specs.Ending.{own_map}
use Rattle.manager.specs.Looking.{row_checks}
use Rattle.manager.proofs.Checking.{passed_both, refused_early, refused_late}
use Rattle.manager.proofs.state.Manager.look.Goals as goal

pub returns-in_err-row : goal.returns-in_err-row
returns-in_err-row g c =
    let m = c.args.self.now in
    let sig = m.signature.arities in
    let M = g.K.Kind.means m.kind in
    let b = book_of m c.args.memory.now in
    let row = c.args.cells.now in
    let p = err_from_is_err_and c.from_residual.result c.from_residual.ensures.1 in
    rw (p.1, p.2) (record {
      answers = (
        refused_early (row_checks sig M c.args.memory.now b c.args.transaction row) (unless NoneFits (Covered sig M c.args.transaction row false b.reservations) ∷ []) _ c.in_err-row.ensures.0,
        tt,
      );
      blank = refl;
    })

pub is_covered-requires : goal.is_covered-requires
is_covered-requires g c =
    let m = c.args.self.now in
    let p = c.in_ok-row.ensures in
    record {
      sizes = p.0.0;
      well = c.requires;
      row = subst (RowCells m.signature.arities (g.K.Kind.means m.kind)) (sym p.1) p.0.1.1.0;
      blank = refl;
    }

pub seen-requires : goal.seen-requires
seen-requires g c = c.in_ok-row.ensures.0.0

pub returns-then-not-is_covered : goal.returns-then-not-is_covered
returns-then-not-is_covered g c =
    let m = c.args.self.now in
    let sig = m.signature.arities in
    let M = g.K.Kind.means m.kind in
    let t = c.args.transaction in
    let b = book_of m c.args.memory.now in
    let p = c.in_ok-row.ensures in
    record {
      answers = (
        refused_late (row_checks sig M c.args.memory.now b t c.args.cells.now) (unless NoneFits (Covered sig M t c.args.cells.now false b.reservations) ∷ []) NoneFits p.0
            (inl (refl, λ x. c.if-not-is_covered.ensures.answer (subst (λ q. Covered sig M t q false b.reservations) (sym p.1) x))),
        tt,
      );
      blank = c.is_covered.ensures.blank;
    }

pub returns : goal.returns
returns g c =
    let m = c.args.self.now in
    let sig = m.signature.arities in
    let M = g.K.Kind.means m.kind in
    let t = c.args.transaction in
    let b = book_of m c.args.memory.now in
    let p = c.in_ok-row.ensures in
    record {
      answers = (
        passed_both (row_checks sig M c.args.memory.now b t c.args.cells.now) (unless NoneFits (Covered sig M t c.args.cells.now false b.reservations) ∷ []) p.0
            (subst (λ q. Covered sig M t q false b.reservations) p.1 c.if-not-is_covered.ensures.answer, tt),
        c.seen.ensures ∙ ap (own_map t b (g.S.Store.means c.args.store.now)) p.1,
      );
      blank = c.is_covered.ensures.blank;
    }
