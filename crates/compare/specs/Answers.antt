-- What a comparison of two patterns answers.
use Rattle.std.specs.Prelude.{◌≡◌, ℕ, ◌<◌, ◌≤◌, List, [], ◌∷◌, ◌++◌, map, length, take, replicate, MatchBool}
use Rattle.std.specs.List.{AllByRecursion}
use Rattle.kinds.specs.Meaning.{Meaning}
use Rattle.terms.specs.declared.cell.Cell.{Cell}
use Rattle.terms.specs.declared.constraint.Constraint.{Constraint}
use Rattle.terms.specs.Terms.{Subst, apply}
use Rattle.terms.specs.Fitting.{Description, Ground, Satisfies, Fits}
use Rattle.unification.specs.Fronts.{part}
use Rattle.unification.specs.Unifiers.{Assign, var, MostGeneral}
use Rattle.unification.specs.Sheets.{blank, Sol}
use Rattle.unification.specs.Pairs.{shifted, both_constraints}
use Rattle.unification.specs.Shares.{Shared, LeastChoice}
use Rattle.compare.specs.declared.sample.Sample.{Sample}
use Rattle.compare.specs.declared.sample.Common.{Common}
use Rattle.compare.specs.Bindings.{WithinPatterns, unifier}

-- the sample has the row's first 12 cells, blanks after them, and says whether more follow
pub record Shows (s : Sample) (row : List Cell) : Type 0 where
  pub cells : s.cells ≡ take 12 (row ++ replicate 12 blank)
  pub more : MatchBool s.more (12 < length row) (length row ≤ 12)

-- a row that fits both patterns: made by one choice for the variables of both, which is the smallest at each variable that μ leaves free
pub record Sampled (sig : List ℕ) (M : Meaning) (left right : Description) (μ : Subst) (s : Sample) : Type 0 where
  pub choice : Subst
  pub shared : Shared sig M left right choice
  pub least : (x : ℕ) → x < 16 → μ x ≡ var x ∷ [] → LeastChoice M μ (both_constraints left.constraints right.constraints) x (choice x)
  pub fits_left : Fits sig M (apply choice left.cells) left
  pub fits_right : Fits sig M (apply choice left.cells) right
  pub shows : Shows s (apply choice left.cells)

-- The bindings name variables and cells of the patterns, and in sequence are a most general unifier; each row that fits both patterns is the unified term under a choice that both share;
-- and the sample is of such a row.
pub record CommonPart (sig : List ℕ) (M : Meaning) (left right : Description) (a : Common) : Type 0 where
  pub within : AllByRecursion (WithinPatterns (length left.cells) (length right.cells)) a.bindings
  pub general : MostGeneral sig (unifier sig left right a.bindings) left.cells (map shifted right.cells)
  pub every : (row : List Cell) → Fits sig M row left → Fits sig M row right
      → (σ : Subst) × Shared sig M left right σ × (row ≡ apply σ (apply (unifier sig left right a.bindings) left.cells))
  pub sampled : Sampled sig M left right (unifier sig left right a.bindings) a.sample

-- the same of a sheet, before it is put into the words of the patterns
module _ (sig : List ℕ) (M : Meaning) (cells sheet : List Cell) (ks : List Constraint) where
  -- no solution meets the constraints
  abbrev pub Unsampled : Type 0
  Unsampled = (σ : Subst) → Assign sig σ → Sol sig cells sheet σ → AllByRecursion (λ k. Satisfies M k.condition (σ k.variable)) ks → ⊥

  -- a solution that meets them, the smallest at each variable that μ leaves free
  pub record Drawn (μ : Subst) (s : Sample) : Type 0 where
    pub choice : Subst
    pub ground : (x : ℕ) → Ground sig M (choice x)
    pub solves : Sol sig cells sheet choice
    pub meets : AllByRecursion (λ k. Satisfies M k.condition (choice k.variable)) ks
    pub least : (x : ℕ) → x < 16 → μ x ≡ var x ∷ [] → LeastChoice M μ ks x (choice x)
    pub shows : Shows s (apply choice (part sig cells 0 1))
