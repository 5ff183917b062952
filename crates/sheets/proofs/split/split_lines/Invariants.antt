use Rattle.std.proofs.Common.{map, length, vec_items}
use Rattle.sheets.proofs.Splits.{Splitting}
use Rattle.sheets.proofs.split.split_lines.Given as goal

abbrev pub invariant-loop-end : goal.invariant-loop-end
invariant-loop-end l = Splitting l.input (map (λ x. x.now) (vec_items l.ended)) l.rest

abbrev pub decreases-loop-end : goal.decreases-loop-end
decreases-loop-end l = length l.rest
