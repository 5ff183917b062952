use Rattle.std.proofs.Common.{not, eqb}
use Rattle.std.proofs.lemmas.List.Filters.{FiltersInPlace}
use Rattle.rolls.proofs.roll.Roll.remove.Given as goal

abbrev pub invariant-loop-i : goal.invariant-loop-i
invariant-loop-i g l = FiltersInPlace (λ e. not (eqb (g.E.Owned.owned e) l.owner)) l.initial.memory l.memory l.k l.i
