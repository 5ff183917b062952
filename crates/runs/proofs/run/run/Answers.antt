use Rattle.std.proofs.Common.{◌≡◌, ◌<◌, min, length, take, drop, refl, ap, ◌∙◌, subst, arith}
use Rattle.std.proofs.lemmas.List.{length-take-le, take_all}
use Rattle.runs.specs.Runs.{Ran, RunOf}
use Rattle.runs.proofs.Going.{going_start, going_next, going_ran}
use Rattle.runs.proofs.run.run.Goals as goal

pub loop-i-init : goal.loop-i-init
loop-i-init g c =
    let m = c.in_ok-manager.manager in
    let made = c.in_ok-manager.ensures.answers in (
      going_start g.K.Kind.means m.kind m.signature.arities (g.S.Store.places c.args.store.now) (g.S.Store.means c.args.store.now) (take c.min-n.result c.args.calls.now) c.args.answers.now c.args.buffers.now m c.args.memory.now
          (record { signature = refl; kind = refl; book = made.1.book }) made.0.0,
      refl,
      refl,
    )

pub answer-requires : goal.answer-requires
answer-requires g c = record { sizes = c.loop-i.invariant.0.lengths; well = c.loop-i.invariant.0.well; blank = c.loop-i.invariant.1 }

pub loop-i-preserved : goal.loop-i-preserved
loop-i-preserved g c =
    let m = c.in_ok-manager.manager in
    let i = c.loop-i.i in
    let e = c.min-n.ensures in
    let e1 = c.min.ensures in
    let ka = c.loop-i.auto.answers in
    let kb = c.loop-i.auto.buffers in
    let t = c.loop-i-test.true in
    let cs = take c.min-n.result c.args.calls.now in
    let ln = length-take-le c.min-n.result c.args.calls.now (omega arith) in
    let la : i < length c.loop-i.answers = omega arith in
    let la₀ : i < length c.args.answers.now = omega arith in
    let lb : i < length c.loop-i.buffers = omega arith in
    let lb₀ : i < length c.args.buffers.now = omega arith in
    let a = c.answer.ensures in
    let same = c.loop-i.invariant.2 in (
      going_next g.K.Kind.means m.kind m.signature.arities (g.S.Store.places c.args.store.now) (g.S.Store.means c.args.store.now) cs c.args.answers.now c.args.buffers.now
          c.loop-i.answers c.loop-i.buffers i c.loop-i.manager c.answer.new.manager c.loop-i.memory c.answer.new.memory (g.S.Store.means c.loop-i.store) (g.S.Store.means c.answer.new.store)
          (g.S.Store.places c.loop-i.store) _ _ c.answer.result c.answer.new.buffer t la la₀ lb lb₀ c.loop-i.invariant.0 same a.answered
          a.well a.sizes a.fixed,
      a.blank,
      a.places ∙ same,
    )

pub returns : goal.returns
returns g c =
    let m = c.in_ok-manager.manager in
    let new = c.in_ok-manager.ensures.answers in
    let i = c.loop-i.i in
    let n = c.min-n.result in
    let places = g.S.Store.places c.args.store.now in
    let first = g.S.Store.means c.args.store.now in
    let last = g.S.Store.means c.loop-i.store in
    let calls = c.args.calls.now in
    let cs = take n calls in
    let made = c.min-n.ensures ∙ ap (λ k. min k (length c.args.buffers.now)) c.min.ensures in
    let ln = length-take-le n calls (omega arith) in
    let e : i ≡ n = (let k = c.loop-i.auto.i-end in let t = c.loop-i-test.false in omega arith) in
    let going = c.loop-i.invariant.0 in
    let ran = subst (λ ds. Ran m.signature.arities (g.K.Kind.means m.kind) places ds (take i c.loop-i.answers) (take i c.args.buffers.now) (take i c.loop-i.buffers) first last) (take_all i cs (omega arith))
    (going_ran g.K.Kind.means m.kind m.signature.arities places first cs c.args.answers.now c.args.buffers.now c.loop-i.answers c.loop-i.buffers i c.loop-i.manager c.loop-i.memory last going) in
    let here : RunOf m.signature.arities (g.K.Kind.means m.kind) places calls c.args.answers.now c.loop-i.answers c.args.buffers.now c.loop-i.buffers first last n = record {
      made = made;
      ran = subst (λ k. Ran m.signature.arities (g.K.Kind.means m.kind) places cs (take k c.loop-i.answers) (take k c.args.buffers.now) (take k c.loop-i.buffers) first last) e ran;
      answers_past = subst (λ k. drop k c.loop-i.answers ≡ drop k c.args.answers.now) e going.answers_past;
      buffers_past = subst (λ k. drop k c.loop-i.buffers ≡ drop k c.args.buffers.now) e going.buffers_past;
    } in
    record {
      run = (
        new.0,
        subst (λ k. RunOf c.args.arities (g.K.Kind.means k) places calls c.args.answers.now c.loop-i.answers c.args.buffers.now c.loop-i.buffers first last n) new.1.kind
            (subst (λ sig. RunOf sig (g.K.Kind.means m.kind) places calls c.args.answers.now c.loop-i.answers c.args.buffers.now c.loop-i.buffers first last n) new.1.signature
            here),
      );
      places = c.loop-i.invariant.2;
      sizes = λ _. going.lengths;
      blank = c.loop-i.invariant.1;
    }
