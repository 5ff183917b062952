use Rattle.std.proofs.Common.{◌≡◌, ◌++◌, map, take}
use Rattle.lists.specs.Lists.{items}
use Rattle.compare.proofs.lay.lay.Given as goal

abbrev pub invariant-loop-item : goal.invariant-loop-item
invariant-loop-item g l = items l.laid ≡ items l.initial.laid ++ take l.item-index l.left

abbrev pub invariant-loop-other : goal.invariant-loop-other
invariant-loop-other g l = items l.laid ≡ items l.fn.laid ++ (l.left ++ map g.T.Shift.shifted (take l.other-index l.right))
