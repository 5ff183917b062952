-- Unifiers, most general ones, and bindings applied in sequence.
use Rattle.std.specs.Prelude.{◌≡◌, ℕ, cond, List, [], ◌∷◌, ◌==◌}
use Rattle.terms.specs.declared.cell.Cell.{Cell}
use Rattle.terms.specs.Terms.{Are, Subst, apply}

-- each variable is given one term
abbrev pub Assign : List ℕ → Subst → Type 0
Assign sig σ = (x : ℕ) → Are sig 1 (σ x)

-- the cell of the variable x
abbrev pub var : ℕ → Cell
var x = record { letter = 86; number = x }

-- σ makes the two terms equal
abbrev pub Unifies : Subst → List Cell → List Cell → Type 0
Unifies σ s t = apply σ s ≡ apply σ t

-- a most general unifier: putting it first changes no unifier
pub record MostGeneral (sig : List ℕ) (μ : Subst) (s t : List Cell) : Type 0 where
  pub assigns : Assign sig μ
  pub unifies : Unifies μ s t
  pub general : (σ : Subst) → Assign sig σ → Unifies σ s t → (x : ℕ) → apply σ (μ x) ≡ σ x

-- a variable, and the term that it is replaced by
pub record Replacement : Type 0 where
  pub name : ℕ
  pub term : List Cell

abbrev pub single : ℕ → List Cell → Subst
single x t y = cond (y == x) t (var y ∷ [])

-- replacements one after another, the first first
abbrev pub sequence : List Replacement → Subst
sequence [] y = var y ∷ []
sequence (b ∷ bs) y = apply (sequence bs) (single b.name b.term y)
