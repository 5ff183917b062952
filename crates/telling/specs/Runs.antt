-- Runs of set bits in a mask.
use Rattle.std.specs.Prelude.{ℕ, ◌+◌, ◌<◌, ◌≤◌}
use Rattle.kinds.specs.Sets.{Bit}
use Rattle.telling.specs.declared.mask.Run.{Run}

-- no bit from `at` on is set before `to`
abbrev pub Clear : ℕ → ℕ → ℕ → Type 0
Clear mask at to = (k : ℕ) → at ≤ k → k < to → Bit mask k → ⊥

-- every bit from `at` on is set before `to`
abbrev pub Filled : ℕ → ℕ → ℕ → Type 0
Filled mask at to = (k : ℕ) → at ≤ k → k < to → Bit mask k

-- the first run from `at` on, below `top`: all its bits are set, none before it, and not the one after it
abbrev pub NextRun : ℕ → ℕ → ℕ → Run → Type 0
NextRun mask at top run =
    (at ≤ run.first) × (run.first ≤ run.last) × (run.last < top)
    × Clear mask at run.first
    × Filled mask run.first (run.last + 1)
    × (run.last + 1 < top → Bit mask (run.last + 1) → ⊥)
