-- Checks that run in order: the first that fails names the refusal.
use Rattle.std.specs.Prelude.{◌≡◌, ◌⊎◌, List, [], ◌∷◌, Ok, Err, Result}
use Rattle.manager.specs.declared.fault.ManagerFault.{ManagerFault}

-- what passing means, and how the check fails: with which fault, whole with what it carries
abbrev pub Check : Type 1
Check = Type 0 × (ManagerFault → Type 0)

-- a check with one fault
abbrev pub unless : ManagerFault → Type 0 → Check
unless f P = (P, λ g. (g ≡ f) × (P → ⊥))

abbrev pub Passed : List Check → Type 0
Passed [] = Unit {0}
Passed (c ∷ cs) = c.0 × Passed cs

abbrev pub Refused : List Check → ManagerFault → Type 0
Refused [] f = ⊥
Refused (c ∷ cs) f = c.1 f ⊎ (c.0 × Refused cs f)

-- A call is granted exactly when every check passes, and then `Granted` holds of its answer; else the first check that fails is
-- named, and `Still` holds.
abbrev pub Answers : {A : Type 0} → List Check → (A → Type 0) → (ManagerFault → Type 0) → Result A ManagerFault → Type 0
Answers cs Granted Still (Ok a) = Passed cs × Granted a
Answers cs Granted Still (Err f) = Refused cs f × Still f
