-- The smallest number of a set that is at least v, as an answer that may be absent.
use Rattle.std.specs.Prelude.{ℕ, ◌<◌, ◌≤◌, Some, None, Option}

-- `None` exactly when the set has no number from v on; `Some m` exactly when m is its least number from v on
abbrev pub Smallest : (ℕ → Type 0) → ℕ → Option ℕ → Type 0
Smallest P v None = (c : ℕ) → v ≤ c → P c → ⊥
Smallest P v (Some m) = (v ≤ m) × P m × ((c : ℕ) → v ≤ c → c < m → P c → ⊥)
