-- What each variable stands for, and the conditions on a class of variables.
use Rattle.std.specs.Prelude.{◌≡◌, ℕ, ◌<◌, ◌≤◌, Bool, false, List, map, length, filter, ◌==◌, ◌≢◌, slice_index_or}
use Rattle.kinds.specs.declared.condition.Condition.{Condition}
use Rattle.terms.specs.declared.cell.Cell.{Cell}
use Rattle.terms.specs.declared.constraint.Constraint.{Constraint}
use Rattle.terms.specs.Terms.{Subst, apply}
use Rattle.unification.specs.Fronts.{at, part}
use Rattle.unification.specs.Sheets.{entry, Sol}
use Rattle.compare.specs.declared.classes.Root.{Root}
use Rattle.compare.specs.declared.classes.Root.TheVariants.{Variable, Term}

-- in each solution the variable x is what its root is: a free variable, or a term that begins with no variable
abbrev pub RootOf : List ℕ → List Cell → List Cell → ℕ → Root → Type 0
RootOf sig cells sheet x (Variable y) = (y < 16) × (length cells ≤ entry sheet y) × ((σ : Subst) → Sol sig cells sheet σ → σ x ≡ σ y)
RootOf sig cells sheet x (Term p) =
    (p < length cells) × ((at cells p).letter ≢ 86) × ((σ : Subst) → Sol sig cells sheet σ → σ x ≡ apply σ (part sig cells p 1))

abbrev pub root_at : List Root → ℕ → Root
root_at roots x = slice_index_or roots x (Variable 0)

abbrev pub constraint_at : List Constraint → ℕ → Constraint
constraint_at ks k = slice_index_or ks k (record { variable = 0; condition = record { form = 0; a = 0; b = 0 } })

-- the free variable y is meant
abbrev pub stands_for : ℕ → Root → Bool
stands_for y (Variable z) = z == y
stands_for y (Term p) = false

abbrev pub on_class : List Root → ℕ → Constraint → Bool
on_class roots y k = stands_for y (root_at roots k.variable)

-- the conditions on the variables that stand for y
abbrev pub class_conditions : List Root → List Constraint → ℕ → List Condition
class_conditions roots ks y = map (λ k. k.condition) (filter (on_class roots y) ks)
