use Rattle.std.proofs.Common.{◌≡◌, ℕ, ◌<◌, false, drop, get_or}
use Rattle.unification.specs.Fronts.{Begins, terms, at, part}
use Rattle.unification.specs.Sequences.{Lacks}
use Rattle.unification.specs.Orders.{Has, IsOpen}
use Rattle.compare.proofs.walk.Terms.ready.Given as goal

-- what is to come decides for the whole term, and no variable that was passed waits
abbrev pub invariant-loop-cell : goal.invariant-loop-cell
invariant-loop-cell l =
    Begins l.self.signature.now.arities l.to_come (drop l.cell-index l.cell-items)
    × ((y : ℕ) → IsOpen l.wait y → Lacks y (terms l.self.signature.now.arities l.to_come (drop l.cell-index l.cell-items)) → Lacks y (terms l.self.signature.now.arities 1 l.cell-items))
    × ((y : ℕ) → Has y (terms l.self.signature.now.arities l.to_come (drop l.cell-index l.cell-items)) → Has y (terms l.self.signature.now.arities 1 l.cell-items))
    × ((k : ℕ) → k < l.cell-index → (at (part l.self.signature.now.arities l.self.cells.now l.i 1) k).letter ≡ 86 → get_or l.wait (at (part l.self.signature.now.arities l.self.cells.now l.i 1) k).number false ≡ false)
