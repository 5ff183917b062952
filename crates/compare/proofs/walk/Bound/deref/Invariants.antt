use Rattle.std.proofs.Common.{◌≡◌, ◌+◌, ◌<◌, cond, eqb, length}
use Rattle.terms.specs.Terms.{Subst, apply}
use Rattle.unification.specs.Fronts.{at, part}
use Rattle.unification.specs.Sheets.{Sol}
use Rattle.compare.proofs.walk.Bound.deref.Given as goal

abbrev pub invariant-loop-at : goal.invariant-loop-at
invariant-loop-at l =
    (l.at < length l.self.terms.cells.now)
    × ((σ : Subst) → Sol l.self.terms.signature.now.arities l.self.terms.cells.now l.self.sheet.now σ → apply σ (part l.self.terms.signature.now.arities l.self.terms.cells.now l.i 1) ≡ apply σ (part l.self.terms.signature.now.arities l.self.terms.cells.now l.at 1))
    × ((l.at ≡ l.i → ⊥) → (at l.self.terms.cells.now l.i).letter ≡ 86)

abbrev pub decreases-loop-at : goal.decreases-loop-at
decreases-loop-at l = cond (eqb (at l.self.terms.cells.now l.at).letter 86) ((at l.self.terms.cells.now l.at).number + 1) 0
