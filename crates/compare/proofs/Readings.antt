-- What entries and bindings read as.
use Rattle.std.proofs.Common.{◌≡◌, ℕ, zero, suc, ◌≤◌, List, [], ◌∷◌, drop, replicate, Some, None, Option, refl, ap, ◌∙◌, arith}
use Rattle.terms.specs.declared.cell.Cell.{Cell}
use Rattle.unification.specs.Fronts.{part}
use Rattle.unification.specs.Unifiers.{Replacement}
use Rattle.compare.specs.declared.binding.Binding.{Binding}
use Rattle.compare.specs.declared.binding.Side.{Side}
use Rattle.compare.specs.declared.binding.Side.TheVariants.{Left, Right}
use Rattle.compare.specs.Bindings.{joint, place_of, CellWithin, WithinPatterns, replacements}
use Rattle.std.specs.List.{AllByRecursion}

abbrev pub replace : ℕ → List Cell → Replacement
replace x t = record { name = x; term = t }

-- one binding more in front
pub replacements_more : (sig : List ℕ) (cells : List Cell) (n x p : ℕ) (b : Binding) (bs : List (Option Binding)) → joint b.variable ≡ x → place_of n b.term ≡ p
    → replacements sig cells n (Some b ∷ bs) ≡ record { name = x; term = part sig cells p 1 } ∷ replacements sig cells n bs
replacements_more sig cells n x p b bs j q =
    ap (λ (y : ℕ). replace y (part sig cells (place_of n b.term) 1) ∷ replacements sig cells n bs) j
    ∙ ap (λ (y : ℕ). replace x (part sig cells y 1) ∷ replacements sig cells n bs) q

-- no bindings say nothing
pub replacements_none : (sig : List ℕ) (cells : List Cell) (n m k : ℕ) → replacements sig cells n (drop k (replicate m None)) ≡ []
replacements_none sig cells n zero zero = refl
replacements_none sig cells n zero (suc k) = refl
replacements_none sig cells n (suc m) zero = replacements_none sig cells n m zero
replacements_none sig cells n (suc m) (suc k) = replacements_none sig cells n m k

-- bindings that are not there name nothing, and a cell within a pattern is within a larger one
pub none_within : (n m k : ℕ) → AllByRecursion (WithinPatterns n m) (replicate k None)
none_within n m zero = tt
none_within n m (suc k) = (tt, none_within n m k)

pub cell_within : (n m l : ℕ) (s : Side) (k : ℕ) → m ≤ l → CellWithin n m s k → CellWithin n l s k
cell_within n m l Left k h w = w
cell_within n m l Right k h w = omega arith
