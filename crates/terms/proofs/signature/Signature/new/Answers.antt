use Rattle.std.proofs.Common.{◌≡◌, length, refl, subst, inl, inr, arith}
use Rattle.std.proofs.lemmas.List.{take_all}
use Rattle.terms.specs.Proper.{Arities}
use Rattle.terms.proofs.Firsts.{arities_more, arities_fault}
use Rattle.terms.proofs.signature.Signature.new.Goals as goal
use Rattle.terms.proofs.signature.Signature.new.Goals.{then-symbol-eq0, else-symbol-eq0}

pub returns-then-arity-most : goal.returns-then-arity-most
returns-then-arity-most c =
    let l : length c.args.arities ≡ 32 = omega arith in (
      c.loop-symbol.symbol,
      arities_fault c.args.arities c.loop-symbol.symbol (omega arith) c.loop-symbol.invariant
          (elim c.if-symbol-eq0.branch [
            | then-symbol-eq0 w ↦ inr (w.if-symbol-eq0.true, λ z. omega (arith, w.most-is, c.if-arity-most.true))
            | else-symbol-eq0 w ↦ inl (omega (arith, w.most-is, c.if-arity-most.true))
          ]),
      refl,
    )

pub loop-symbol-preserved : goal.loop-symbol-preserved
loop-symbol-preserved c =
    let l : length c.args.arities ≡ 32 = omega arith in
    elim c.if-symbol-eq0.branch [
      | then-symbol-eq0 w ↦ arities_more c.args.arities c.loop-symbol.symbol (omega arith) (omega arith) c.loop-symbol.invariant
          (omega (arith, w.most-is, c.if-arity-most.false)) (λ _. omega (arith, w.most-is, c.if-arity-most.false))
      | else-symbol-eq0 w ↦ arities_more c.args.arities c.loop-symbol.symbol (omega arith) (omega arith) c.loop-symbol.invariant
          (omega (arith, w.most-is, c.if-arity-most.false)) (λ z. absurd (w.if-symbol-eq0.false z))
    ]

pub returns : goal.returns
returns c =
    let l : length c.args.arities ≡ 32 = omega arith in
    (refl, subst Arities (take_all c.loop-symbol.symbol c.args.arities (omega arith)) c.loop-symbol.invariant)
