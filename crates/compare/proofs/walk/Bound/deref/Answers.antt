use Rattle.std.proofs.Common.{ℕ, sym, ap, ◌∙◌, inl, inr, arith}
use Rattle.std.proofs.lemmas.Bool.Decides.{eqb_tells}
use Rattle.terms.specs.Terms.{apply}
use Rattle.unification.specs.Fronts.{at, part}
use Rattle.unification.proofs.Places.{part_var}
use Rattle.compare.proofs.walk.Bound.deref.Goals as goal

pub loop-at-preserved : goal.loop-at-preserved
loop-at-preserved c =
    let t = c.args.self.now.terms in
    let i = c.loop-at.at in
    let w = c.loop-at.invariant.0 in
    let b = t.good.whole i w in
    let v = c.loop-at-test.true in
    let x = t.good.vars i w v in
    let o = c.in-Some.ensures in (
      o.1,
      (λ σ s. c.loop-at.invariant.1 σ s ∙ part_var t.signature.now.arities t.cells.now i σ b v ∙ s (at t.cells.now i).number x (omega (arith, o))
          ∙ ap (λ (k : ℕ). apply σ (part t.signature.now.arities t.cells.now k 1)) (sym o.0)),
      λ _. elim (eqb_tells i c.args.i) [
        | inl p ↦ ap (λ (k : ℕ). (at t.cells.now k).letter) (sym p.1) ∙ v
        | inr p ↦ c.loop-at.invariant.2 p.1
      ],
    )
