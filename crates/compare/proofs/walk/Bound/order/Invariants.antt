use Rattle.std.proofs.Common.{◌≡◌, ◌-◌, ◌≤◌, length, drop}
use Rattle.std.specs.List.{AllByRecursion}
use Rattle.unification.specs.Orders.{opens}
use Rattle.unification.proofs.Lines.{Placed}
use Rattle.compare.specs.Bindings.{WithinPatterns, replacements}
use Rattle.compare.proofs.walk.Bound.order.Given as goal

abbrev pub invariant-loop-k : goal.invariant-loop-k
invariant-loop-k l =
    (length l.wait ≡ 16) × (length l.out ≡ 16) × (l.k ≡ opens l.wait) × (l.k ≤ 16)
    × Placed l.self.terms.signature.now.arities l.self.terms.cells.now l.self.sheet.now l.wait (replacements l.self.terms.signature.now.arities l.self.terms.cells.now l.left (drop l.k l.out))
    × AllByRecursion (WithinPatterns l.left (length l.self.terms.cells.now - l.left)) l.out
