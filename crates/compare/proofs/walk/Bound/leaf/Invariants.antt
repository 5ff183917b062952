use Rattle.std.proofs.Common.{ℕ, ◌<◌}
use Rattle.unification.specs.Fronts.{part}
use Rattle.unification.specs.Sheets.{entry}
use Rattle.unification.specs.Orders.{Has, IsOpen}
use Rattle.compare.proofs.walk.Bound.leaf.Given as goal

abbrev pub invariant-loop-variable : goal.invariant-loop-variable
invariant-loop-variable l = (z : ℕ) → z < l.variable → IsOpen l.wait z
    → (y : ℕ) × (y < 16) × IsOpen l.wait y × Has y (part l.self.terms.signature.now.arities l.self.terms.cells.now (entry l.self.sheet.now z) 1)
