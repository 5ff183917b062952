use Rattle.std.proofs.Common.{◌≡◌, ◌+◌, ◌<◌, false, List, [], map, length, refl, ap, ◌∙◌, subst, arith}
use Rattle.std.proofs.lemmas.List.{take_all}
use Rattle.std.proofs.lemmas.Bool.{both_ways}
use Rattle.maps.specs.Maps.{Figures}
use Rattle.terms.specs.declared.cell.Cell.{Cell}
use Rattle.terms.specs.Fitting.{Fits, described}
use Rattle.stores.specs.Means.{row_of}
use Rattle.terms.specs.Rows.{decided}
use Rattle.serial.specs.Machine.{with_own}
use Rattle.serial.specs.Surveys.{Unchanged}
use Rattle.serial.proofs.Surveys.{rows_start}
use Rattle.ledger.specs.Words.{pending_of}
use Rattle.ledger.proofs.Counting.{at_nth, nth_none, store_taken, store_passed}
use Rattle.ledger.proofs.figures.survey_store.Goals as goal
use Rattle.ledger.proofs.figures.survey_store.Goals.{in-Some+then-stands, in-Some+else-stands, in_default}

pub loop-k-init : goal.loop-k-init
loop-k-init g c = (
  c.requires.blank,
  rows_start decided c.args.transaction (map pending_of c.args.changes.now) (g.S.Store.means c.args.store.now) (λ q. Fits c.args.signature.now.arities (g.K.Kind.means c.args.kind.now) q (described c.args.pattern.now)),
  omega arith,
  omega arith,
)

pub loop-k-preserved : goal.loop-k-preserved
loop-k-preserved g c =
    let s = c.args.store.now in
    let cs = map pending_of c.args.changes.now in
    let fits : List Cell → Type 0 = λ q. Fits c.args.signature.now.arities (g.K.Kind.means c.args.kind.now) q (described c.args.pattern.now) in
    let rows = g.S.Store.rows s in
    let once = (g.S.Store.listed s).once in
    let k = c.loop-k.k in
    let inv = c.loop-k.invariant in
    let i2 = inv.2 in
    let i3 = inv.3 in
    let h : k < length rows = omega (arith, c.size-size.ensures.rows) in
    elim c.match-row.branch [
      | in-Some+then-stands w ↦
          (let r = row_of w.in-Some.entry in
          let n = w.in-Some.entry.count.value in
          let few = w.in-Some.entry.count.few in
          let yes = w.if-stands.ensures.answer.0 refl in
          let en = w.number-is in
          let et = w.total-is ∙ ap (λ y. c.loop-k.total + y) w.from-total.ensures in
          let ek : w.from-total.result ≡ n = w.from-total.ensures in (
            w.sheet-is ∙ w.stands.ensures.blank,
            rw (w.number-is, et) (store_taken c.args.transaction cs (g.S.Store.means s) fits c.loop-k.number c.loop-k.total rows once k r h (at_nth rows k r h w.in-Some.ensures.row) inv.1 n w.in-Some.ensures.count yes.0 yes.1),
            omega arith,
            omega arith,
          ))
      | in-Some+else-stands w ↦
          (let r = row_of w.in-Some.entry in
          let en = w.number-is in
          let et = w.total-is in (
            w.sheet-is ∙ w.stands.ensures.blank,
            rw (w.number-is, w.total-is) (store_passed c.args.transaction cs (g.S.Store.means s) fits c.loop-k.number c.loop-k.total rows once k r h (at_nth rows k r h w.in-Some.ensures.row) inv.1 (λ f q. both_ways false refl (w.if-stands.ensures.answer.1 (f, q)))),
            omega arith,
            omega arith,
          ))
      | in_default w ↦ absurd (nth_none rows k [] h w.in_default.ensures.row)
    ]

pub returns : goal.returns
returns g c =
    let s = c.args.store.now in
    let cs = map pending_of c.args.changes.now in
    let fits : List Cell → Type 0 = λ q. Fits c.args.signature.now.arities (g.K.Kind.means c.args.kind.now) q (described c.args.pattern.now) in
    let rows = g.S.Store.rows s in
    let inv = c.loop-k.invariant in
    let z = c.size-size.ensures.rows in
    let i2 = inv.2 in
    let i3 = inv.3 in
    let e = c.loop-k.auto.k-end in
    let room = g.S.Store.room s in
    let few = g.S.Store.few s in
    record {
      figures = subst (λ l. Figures (Unchanged decided c.args.transaction cs fits l) (with_own decided c.args.transaction cs (g.S.Store.means s)) c.loop-k.number c.loop-k.total) (take_all c.loop-k.k rows (omega arith)) inv.1;
      small = (omega arith, omega arith);
      blank = inv.0;
    }
