-- What the rows that fit two patterns have in common, and the smallest choice for a variable that is left free.
use Rattle.std.specs.Prelude.{◌≡◌, ℕ, ◌≤◌, List, [], ◌∷◌, map, ◌≢◌}
use Rattle.std.specs.List.{AllByRecursion}
use Rattle.kinds.specs.Meaning.{Meaning}
use Rattle.kinds.specs.Common.{Met}
use Rattle.terms.specs.declared.cell.Cell.{Cell}
use Rattle.terms.specs.declared.constraint.Constraint.{Constraint}
use Rattle.terms.specs.Terms.{Subst}
use Rattle.terms.specs.Fitting.{Description, Ground, Satisfies}
use Rattle.unification.specs.Unifiers.{Unifies}
use Rattle.unification.specs.Pairs.{shifted, both_constraints}

-- one choice of a variable-free term for each variable of both patterns: it makes their cells equal and meets the constraints of both
pub record Shared (sig : List ℕ) (M : Meaning) (left right : Description) (σ : Subst) : Type 0 where
  pub ground : (x : ℕ) → Ground sig M (σ x)
  pub unifies : Unifies σ left.cells (map shifted right.cells)
  pub meets : AllByRecursion (λ k. Satisfies M k.condition (σ k.variable)) (both_constraints left.constraints right.constraints)

-- the value of letter l and code c meets the constraints on x and on each variable that μ makes equal to x
abbrev pub ClassMeets : Meaning → Subst → List Constraint → ℕ → ℕ → ℕ → Type 0
ClassMeets M μ ks x l c = AllByRecursion (λ k. μ k.variable ≡ μ x → Met M k.condition l c) ks

-- there are no such constraints
abbrev pub Unconstrained : Subst → List Constraint → ℕ → Type 0
Unconstrained μ ks x = AllByRecursion (λ k. μ k.variable ≢ μ x) ks

-- t is the value of smallest code that meets them, and every value that does has its letter
pub record LeastValue (M : Meaning) (μ : Subst) (ks : List Constraint) (x : ℕ) (t : List Cell) : Type 0 where
  pub letter : ℕ
  pub code : ℕ
  pub is : t ≡ record { letter = letter; number = code } ∷ []
  pub meets : ClassMeets M μ ks x letter code
  pub least : (l c : ℕ) → ClassMeets M μ ks x l c → (l ≡ letter) × (code ≤ c)

-- what a free variable is given: the smallest value that meets the constraints on it, or the symbol 0 without constraints
pub record LeastChoice (M : Meaning) (μ : Subst) (ks : List Constraint) (x : ℕ) (t : List Cell) : Type 0 where
  pub bare : Unconstrained μ ks x → t ≡ record { letter = 83; number = 0 } ∷ []
  pub bound : (Unconstrained μ ks x → ⊥) → LeastValue M μ ks x t
