use Rattle.std.proofs.Common.{◌≡◌, ℕ, ◌<◌, false, ltb, length, get_or}
use Rattle.unification.specs.Sheets.{entry}
use Rattle.compare.proofs.walk.Bound.bound_variables.Given as goal

abbrev pub invariant-loop-x : goal.invariant-loop-x
invariant-loop-x l = (length l.bound ≡ 16) × ((y : ℕ) → y < l.x → get_or l.bound y false ≡ ltb (entry l.self.sheet.now y) (length l.self.terms.cells.now))
