use Rattle.std.proofs.Common.{◌≡◌, ◌+◌, ◌-◌, ◌≤◌, length, drop}
use Rattle.unification.specs.Fronts.{Begins, after}
use Rattle.compare.proofs.walk.Terms.skip.Given as goal

abbrev pub invariant-loop-left : goal.invariant-loop-left
invariant-loop-left l =
    (l.i ≤ l.at) × (l.i + 1 ≤ l.at + l.left) × (l.at ≤ length l.self.cells.now) × Begins l.self.signature.now.arities l.left (drop l.at l.self.cells.now)
    × (after l.self.signature.now.arities l.left (drop l.at l.self.cells.now) ≡ after l.self.signature.now.arities 1 (drop l.i l.self.cells.now))

abbrev pub decreases-loop-left : goal.decreases-loop-left
decreases-loop-left l = length l.self.cells.now - l.at
