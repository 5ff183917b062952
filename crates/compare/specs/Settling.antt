-- Values for the classes of variables.
use Rattle.std.specs.Prelude.{◌≡◌, ℕ, ◌<◌, ◌≤◌, List, length, ◌≢◌}
use Rattle.kinds.specs.declared.condition.Condition.{Condition}
use Rattle.kinds.specs.Meaning.{Meaning}
use Rattle.kinds.specs.Common.{Met, Meets}
use Rattle.terms.specs.declared.cell.Cell.{Cell}
use Rattle.terms.specs.declared.constraint.Constraint.{Constraint}
use Rattle.unification.specs.Fronts.{at}
use Rattle.compare.specs.declared.classes.Root.{Root}
use Rattle.compare.specs.declared.classes.Root.TheVariants.{Variable, Term}
use Rattle.compare.specs.Roots.{root_at, constraint_at, class_conditions}

-- a root is one of sixteen variables, or a place among the cells
abbrev pub WithinCells : List Cell → Root → Type 0
WithinCells cells (Variable y) = y < 16
WithinCells cells (Term p) = p < length cells

module _ (M : Meaning) (cells : List Cell) (roots : List Root) (ks : List Constraint) where
  -- the fill of a class: the value of smallest code that meets its conditions
  pub record Fill (fills : List Cell) (y : ℕ) : Type 0 where
    pub letter : ℕ
    pub code : ℕ
    pub is : at fills y ≡ record { letter = letter; number = code }
    pub meets : Meets M (class_conditions roots ks y) letter code
    pub least : (l c : ℕ) → Meets M (class_conditions roots ks y) l c → (l ≡ letter) × (code ≤ c)

  -- a condition on a variable with this root: its class has a fill; or the term is a value that meets the condition
  abbrev pub Settles : List Cell → Condition → Root → Type 0
  Settles fills q (Variable y) = Fill fills y
  Settles fills q (Term p) = Met M q (at cells p).letter (at cells p).number

  -- nothing can meet it
  abbrev pub Fails : Condition → Root → Type 0
  Fails q (Variable y) = (l c : ℕ) → Meets M (class_conditions roots ks y) l c → ⊥
  Fails q (Term p) = Met M q (at cells p).letter (at cells p).number → ⊥

  abbrev pub root_of : ℕ → Root
  root_of k = root_at roots (constraint_at ks k).variable

  -- some constraint cannot be met
  abbrev pub Unmet : Type 0
  Unmet = (k : ℕ) × (k < length ks) × Fails (constraint_at ks k).condition (root_of k)

  -- the constraints below n are met, and the variables without any are given the symbol 0
  pub record Settled (fills : List Cell) (n : ℕ) : Type 0 where
    pub long : length fills ≡ 16
    pub each : (k : ℕ) → k < n → Settles fills (constraint_at ks k).condition (root_of k)
    pub others : (y : ℕ) → y < 16 → ((k : ℕ) → k < n → root_of k ≢ Variable y) → at fills y ≡ record { letter = 83; number = 0 }
