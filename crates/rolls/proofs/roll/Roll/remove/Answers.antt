use Rattle.std.proofs.Common.{◌<◌, not, length, sym, ap, ◌∙◌, arith}
use Rattle.std.proofs.lemmas.List.Filters.{FiltersInPlace-more_no, FiltersInPlace-more_set}
use Rattle.std.proofs.lemmas.Bool.{eq-eqb, ne_eqb}
use Rattle.rolls.proofs.roll.Roll.remove.Goals as goal
use Rattle.rolls.proofs.roll.Roll.remove.Goals.{then-owner, else-owner}

pub loop-i-preserved : goal.loop-i-preserved
loop-i-preserved g c =
    let lt : c.loop-i.i < length c.loop-i.memory = omega arith in
    elim c.if-owner.branch [
      | then-owner w ↦ rw (w.memory-is, w.k-is) (FiltersInPlace-more_set c.loop-i.invariant lt (ap not (ne_eqb _ _ (λ e. w.if-owner.true (c.owner.ensures ∙ e)))) c.index-memory-i.is)
      | else-owner w ↦ rw (w.memory-is, w.k-is) (FiltersInPlace-more_no c.loop-i.invariant lt (ap not (eq-eqb _ _ (sym c.owner.ensures ∙ w.if-owner.false))) c.index-memory-i.is)
    ]
