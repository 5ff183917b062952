-- How two heads meet on a sheet.
use Rattle.std.specs.Prelude.{◌≡◌, ℕ, List, ◌≢◌}
use Rattle.terms.specs.declared.cell.Cell.{Cell}
use Rattle.terms.specs.Terms.{Subst}
use Rattle.unification.specs.Fronts.{at}
use Rattle.unification.specs.Unifiers.{Assign}
use Rattle.unification.specs.Sheets.{Sol, Level, Merged}
use Rattle.compare.specs.declared.unify.Heads.{Heads}
use Rattle.compare.specs.declared.unify.Heads.TheVariants.{Bound, Equal, Never}

-- the sheet's solutions are now those that make the two terms equal; or the heads are one symbol or value; or no solution makes them equal
abbrev pub Headed : List ℕ → List Cell → List Cell → List Cell → ℕ → ℕ → Heads → Type 0
Headed sig cells before behind p q Bound = Merged sig cells before behind p q 1
Headed sig cells before behind p q Equal = (behind ≡ before) × ((at cells p).letter ≢ 86) × (at cells p ≡ at cells q)
Headed sig cells before behind p q Never = (σ : Subst) → Assign sig σ → Sol sig cells before σ → Level sig cells p q 1 σ → ⊥
