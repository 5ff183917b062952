-- The first place at which a list goes wrong, wherever some lists are proper and others are not.
use Rattle.std.specs.Prelude.{◌≡◌, ℕ, ◌+◌, ◌≤◌, List, length, take, ◌≢◌}

-- Some proper list agrees with xs before place i, and none agrees with it up to place i as well.
-- Where xs is only too short, i is its length: no proper list ends there. So a list has at most one first fault, and a
-- proper list has none (`first_one` and `first_improper` of proofs/Places).
pub record FirstFault {A : Type 0} (Proper : List A → Type 0) (xs : List A) (i : ℕ) : Type 0 where
  pub within : i ≤ length xs
  pub before : (ys : List A) × Proper ys × (take i ys ≡ take i xs)
  pub here : (ys : List A) → Proper ys → take (i + 1) ys ≢ take (i + 1) xs
