-- A roll as the list of its entries, in order of arrival: the first n of the memory.
use Rattle.std.specs.Prelude.{◌≡◌, ℕ, ◌+◌, ◌<◌, not, List, [], ◌∷◌, ◌++◌, length, take, Ok, Err, filter, Result, ◌==◌}
use Rattle.maps.specs.Maps.{In}
use Rattle.rolls.specs.declared.roll.Full.{Full}

-- the entries of other owners, in their order
abbrev pub without : {E : Type 0} → (E → ℕ) → ℕ → List E → List E
without owned owner = filter (λ e. not (owned e == owner))

-- an entry has this owner
abbrev pub Has : {E : Type 0} → (E → ℕ) → ℕ → List E → Type 0
Has {E} owned owner entries = (e : E) × In e entries × (owned e ≡ owner)

-- a roll of n entries before and of n' after a push: one more at the end, and refused exactly when the memory is full
abbrev pub Pushed : {E : Type 0} → ℕ → List E → ℕ → List E → E → Result (Unit {0}) Full → Type 0
Pushed n memory n' memory' e (Ok u) = (n < length memory) × (n' ≡ n + 1) × (take n' memory' ≡ take n memory ++ (e ∷ []))
Pushed n memory n' memory' e (Err f) = (n ≡ length memory) × (n' ≡ n) × (memory' ≡ memory)
