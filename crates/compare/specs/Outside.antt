-- What a comparison of two written patterns answers, and what it leaves in the buffer of bindings.
use Rattle.std.specs.Prelude.{◌≡◌, ℕ, ◌⊎◌, List, Ok, Err, Some, None, Option, Result}
use Rattle.kinds.specs.Meaning.{Meaning}
use Rattle.terms.specs.declared.fault.PatternFault.{PatternFault}
use Rattle.terms.specs.Fitting.{Description}
use Rattle.terms.specs.Proper.{Arities, ProperPattern}
use Rattle.terms.specs.Reading.{SignatureRead, PatternRead}
use Rattle.unification.specs.Pairs.{Overlap}
use Rattle.compare.specs.declared.binding.Binding.{Binding}
use Rattle.compare.specs.declared.sample.Sample.{Sample}
use Rattle.compare.specs.Answers.{CommonPart}

-- the arities and both patterns are allowed
pub record Accepted (ns : List ℕ) (M : Meaning) (left right : Description) : Type 0 where
  pub arities : Arities ns
  pub left_proper : ProperPattern ns M left
  pub right_proper : ProperPattern ns M right

-- the first refusal: of the arities, then of the left pattern, then of the right one
abbrev pub Refused : List ℕ → Meaning → Description → Description → PatternFault → Type 0
Refused ns M left right f =
    SignatureRead ns (Err f)
    ⊎ ((Arities ns × PatternRead ns M left.cells left.constraints (Err f))
    ⊎ (Arities ns × ProperPattern ns M left × PatternRead ns M right.cells right.constraints (Err f)))

-- a clash where no row fits both, and else an overlap with its bindings; only an overlap writes the bindings
abbrev pub Compared : List ℕ → Meaning → Description → Description → List (Option Binding) → List (Option Binding) → Result (Option Sample) PatternFault → Type 0
Compared ns M left right before behind (Ok None) = Accepted ns M left right × (Overlap ns M left right → ⊥) × (behind ≡ before)
Compared ns M left right before behind (Ok (Some s)) = Accepted ns M left right × CommonPart ns M left right (record { bindings = behind; sample = s })
Compared ns M left right before behind (Err f) = Refused ns M left right f × (behind ≡ before)
