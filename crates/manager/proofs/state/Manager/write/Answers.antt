use Rattle.std.proofs.Common.{◌≡◌, ◌≤◌, [], ◌∷◌, ◌++◌, refl, subst, inl, arith}
use Rattle.std.proofs.lemmas.Result.{err_from_is_err_and}
use Rattle.terms.specs.Proper.{RowCells}
use Rattle.serial.specs.Rights.{Change.written}
use Rattle.manager.specs.declared.fault.ManagerFault.TheVariants.{Count}
use Rattle.manager.specs.Book.{book_of}
use Rattle.manager.specs.Checks.{Answers, unless}
use Rattle.manager.specs.Looking.{Changed, enter_rules, row_checks}
use Rattle.stores.proofs.Finding.{when_some, when_none, none_err}
use Rattle.manager.proofs.Checking.{answers_after, passed_both, refused_early, refused_late}
use Rattle.manager.proofs.state.Manager.write.Goals as goal

pub returns-in_err-row : goal.returns-in_err-row
returns-in_err-row g c =
    let m = c.args.self.now in
    let sig = m.signature.arities in
    let M = g.K.Kind.means m.kind in
    let b = book_of m c.args.memory.now in
    let t = c.args.transaction in
    let row = c.args.cells.now in
    let p = err_from_is_err_and c.from_residual.result c.from_residual.ensures.1 in
    rw (p.1, p.2) (record {
      answers = (refused_early (row_checks sig M c.args.memory.now b t row) (unless Count (c.args.count ≤ 999999) ∷ enter_rules sig M b t row) _ c.in_err-row.ensures.0, refl);
      blank = refl;
      well = c.requires;
      fixed = record { signature = refl; kind = refl };
      sizes = λ z. z;
    })

pub returns-in_err-count : goal.returns-in_err-count
returns-in_err-count g c =
    let m = c.args.self.now in
    let sig = m.signature.arities in
    let M = g.K.Kind.means m.kind in
    let b = book_of m c.args.memory.now in
    let t = c.args.transaction in
    let row = c.args.cells.now in
    let large = when_none _ _ c.in_err-count.ensures.ok_part c.new.ensures in
    let p = err_from_is_err_and c.from_residual-in_err-count.result c.from_residual-in_err-count.ensures.1 in
    rw (p.1, p.2, none_err c.in_err-count.ensures.value c.in_err-count.ensures.ok_part) (record {
      answers = (refused_late (row_checks sig M c.args.memory.now b t row) (unless Count (c.args.count ≤ 999999) ∷ enter_rules sig M b t row) Count c.in_ok-row.ensures.0 (inl (refl, λ small. omega arith)), refl);
      blank = refl;
      well = c.requires;
      fixed = record { signature = refl; kind = refl };
      sizes = λ z. z;
    })

pub enter-requires : goal.enter-requires
enter-requires g c =
    let m = c.args.self.now in
    let p = c.in_ok-row.ensures in
    record {
      sizes = p.0.0;
      well = c.requires;
      row = subst (RowCells m.signature.arities (g.K.Kind.means m.kind)) (mathlib.Core.Path.sym p.1) p.0.1.1.0;
      blank = refl;
    }

pub returns : goal.returns
returns g c =
    let m = c.args.self.now in
    let sig = m.signature.arities in
    let M = g.K.Kind.means m.kind in
    let x = c.args.memory.now in
    let b = book_of m x in
    let b' = book_of c.enter.new.self c.enter.new.memory in
    let t = c.args.transaction in
    let row = c.args.cells.now in
    let p = c.in_ok-row.ensures in
    let few = c.in_ok-count.count.few in
    let same = when_some _ _ c.in_ok-count.ensures.ok_part c.new.ensures in
    let small : c.args.count ≤ 999999 = omega arith in
    let entered = subst (λ q. Answers (enter_rules sig M b t q) (λ _. Changed t q (written c.in_ok-count.count.value) b b') (λ _. b' ≡ b) c.enter.result) p.1 c.enter.ensures.answers in
    record {
      answers = answers_after (row_checks sig M x b t row ++ unless Count (c.args.count ≤ 999999) ∷ []) (enter_rules sig M b t row) (λ _. Changed t row (written c.args.count) b b') (λ _. b' ≡ b) c.enter.result
          (passed_both (row_checks sig M x b t row) (unless Count (c.args.count ≤ 999999) ∷ []) p.0 (small, tt))
          (subst (λ k. Answers (enter_rules sig M b t row) (λ _. Changed t row (written k) b b') (λ _. b' ≡ b) c.enter.result) same entered);
      blank = c.enter.ensures.blank;
      well = c.enter.ensures.well;
      fixed = c.enter.ensures.fixed;
      sizes = c.enter.ensures.sizes;
    }
