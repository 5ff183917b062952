use Rattle.std.proofs.Common.{◌≡◌, ◌≤◌, length, take}
use Rattle.lists.specs.Lists.{items}
use Rattle.compare.specs.Roots.{class_conditions}
use Rattle.compare.proofs.classes.gather.Given as goal

abbrev pub invariant-loop-constraint : goal.invariant-loop-constraint
invariant-loop-constraint l =
    (length (items l.conditions) ≤ l.constraint-index)
    × (items l.conditions ≡ class_conditions l.roots (take l.constraint-index l.constraints) l.y)
