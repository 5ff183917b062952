-- A check with one refusal.
use Rattle.std.specs.Prelude.{◌≡◌, Ok, Err, Result}

-- passed exactly where P holds, and else refused with the fault f
abbrev pub Checked : {F : Type 0} → Type 0 → F → Result (Unit {0}) F → Type 0
Checked P f (Ok u) = P
Checked P f (Err e) = (e ≡ f) × (P → ⊥)
