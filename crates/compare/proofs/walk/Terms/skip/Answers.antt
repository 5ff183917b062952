use Rattle.std.proofs.Common.{◌≡◌, sym, ◌∙◌, arith}
use Rattle.unification.proofs.Theory.{after_none}
use Rattle.unification.proofs.Places.{step}
use Rattle.compare.proofs.walk.Terms.skip.Goals as goal

pub overflow_add-left : goal.overflow_add-left
overflow_add-left c =
    let s = step c.args.self.now.signature.now.arities c.args.self.now.cells.now c.loop-left.at c.loop-left.left c.loop-left.invariant.3 c.loop-left-test.true in
    omega (arith, s.few, c.arity.ensures.value, c.args.self.now.good.few)

pub returns : goal.returns
returns c =
    let z : c.loop-left.left ≡ 0 = omega arith in
    record {
      within = (omega (arith, z), omega arith);
      rest = sym (after_none _ _) ∙ (rw z at c.loop-left.invariant.4);
    }
