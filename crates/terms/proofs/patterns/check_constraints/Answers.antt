use Rattle.std.proofs.Common.{subst, inl, inr}
use Rattle.std.proofs.lemmas.List.{take_all}
use Rattle.std.proofs.lemmas.Result.{err_from_is_err_and}
use Rattle.terms.specs.Proper.{Constraints}
use Rattle.terms.proofs.Firsts.{constraints_more, constraint_refused, condition_refused}
use Rattle.terms.proofs.patterns.check_constraints.Goals as goal
use Rattle.terms.proofs.patterns.check_constraints.Goals.{then-place-ge-MOST-via-then-place-ge-MOST, then-place-ge-MOST-via-else-place-ge-MOST+then-constraint-ge-VARIABLES}

pub returns-then-place-ge-MOST : goal.returns-then-place-ge-MOST
returns-then-place-ge-MOST g c =
    constraint_refused (g.K.Kind.means c.args.kind.now) c.args.constraints.now c.loop-place.place _ c.loop-place-test.true c.loop-place.invariant
    (elim c.then-place-ge-MOST.branch [
      | then-place-ge-MOST-via-then-place-ge-MOST w ↦ inl w.if-place-ge-MOST.true
      | then-place-ge-MOST-via-else-place-ge-MOST+then-constraint-ge-VARIABLES w ↦ inr w.if-constraint-ge-VARIABLES.true
    ])

pub returns-in_err-check_condition : goal.returns-in_err-check_condition
returns-in_err-check_condition g c =
    let p = err_from_is_err_and c.from_residual.result c.from_residual.ensures.1 in
    let q = c.in_err-check_condition.ensures in
    rw (p.1, p.2, q.0)
    (condition_refused (g.K.Kind.means c.args.kind.now) c.args.constraints.now c.loop-place.place _ c.loop-place-test.true c.loop-place.invariant
    c.if-place-ge-MOST.false c.if-constraint-ge-VARIABLES.false q.1)

pub loop-place-preserved : goal.loop-place-preserved
loop-place-preserved g c =
    constraints_more (g.K.Kind.means c.args.kind.now) c.args.constraints.now c.loop-place.place _ c.loop-place-test.true c.loop-place.invariant
    c.if-place-ge-MOST.false (c.if-constraint-ge-VARIABLES.false, c.in_ok-check_condition.ensures)

pub returns : goal.returns
returns g c =
    subst (Constraints (g.K.Kind.means c.args.kind.now)) (take_all c.loop-place.place c.args.constraints.now c.loop-place-test.false) c.loop-place.invariant
