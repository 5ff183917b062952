use Rattle.std.proofs.Common.{◌+◌, List, map, ap, ◌∙◌, subst, arith}
use Rattle.std.proofs.lemmas.List.{take_all}
use Rattle.maps.specs.Maps.{Figures}
use Rattle.terms.specs.declared.cell.Cell.{Cell}
use Rattle.terms.specs.Fitting.{Fits, described}
use Rattle.terms.specs.Rows.{decided}
use Rattle.serial.specs.Machine.{with_own}
use Rattle.serial.specs.Surveys.{Changed}
use Rattle.ledger.specs.Words.{pending_of}
use Rattle.ledger.proofs.Counting.{own_taken, own_passed}
use Rattle.ledger.proofs.figures.survey_changes.Goals as goal
use Rattle.ledger.proofs.figures.survey_changes.Goals.{in-Some, in_default}

pub loop-change-preserved : goal.loop-change-preserved
loop-change-preserved g c =
    let cs = c.args.changes.now in
    let fits : List Cell → Type 0 = λ q. Fits c.args.signature.now.arities (g.K.Kind.means c.args.kind.now) q (described c.args.pattern.now) in
    let inv = c.loop-change.invariant in
    let i = c.loop-change.change-index in
    let i2 = inv.2 in
    let i3 = inv.3 in
    elim c.match-adds.branch [
      | in-Some w ↦
          (let yes = w.in-Some.ensures.answer in
          let few = w.in-Some.count.few in
          let en = w.number-is in
          let et = w.total-is ∙ ap (λ y. c.loop-change.total + y) w.from-total.ensures in (
            c.adds.ensures.blank,
            (λ m. rw (w.number-is, et) (own_taken c.args.transaction cs c.requires.keys m fits c.loop-change.number c.loop-change.total i c.change-item.result c.loop-change-test.true c.change-item.is (inv.1 m) w.in-Some.count.value yes.0 yes.1 yes.2)),
            omega arith,
            omega arith,
          ))
      | in_default w ↦
          (let en = w.number-is in
          let et = w.total-is in (
            c.adds.ensures.blank,
            (λ m. rw (w.number-is, w.total-is) (own_passed c.args.transaction cs c.requires.keys m fits c.loop-change.number c.loop-change.total i c.change-item.result c.loop-change-test.true c.change-item.is (inv.1 m) w.in_default.ensures.answer)),
            omega arith,
            omega arith,
          ))
    ]

pub returns : goal.returns
returns g c =
    let cs = c.args.changes.now in
    let fits : List Cell → Type 0 = λ q. Fits c.args.signature.now.arities (g.K.Kind.means c.args.kind.now) q (described c.args.pattern.now) in
    let inv = c.loop-change.invariant in
    let i2 = inv.2 in
    let i3 = inv.3 in
    let e = c.loop-change.auto.change-index-end in
    let few = c.requires.few in
    record {
      figures = λ m. subst (λ l. Figures (Changed c.args.transaction fits (map pending_of l)) (with_own decided c.args.transaction (map pending_of cs) m) c.loop-change.number c.loop-change.total) (take_all c.loop-change.change-index cs c.loop-change-test.false) (inv.1 m);
      small = (omega arith, omega arith);
      blank = inv.0;
    }
