-- A search over numbers, hours and classes, with its answer as one number.
use Rattle.std.specs.Prelude.{◌≡◌, ℕ, Some, None, Option}
use Rattle.kinds.specs.Banks.{both}
use Rattle.kinds.specs.Meaning.{Meaning}
use Rattle.kinds.specs.Sets.{number, hour, class}
use Rattle.kinds.specs.Smallest.{Smallest}
use Rattle.kinds.specs.declared.condition.Condition.{Condition}

-- numbers, hours and classes together
abbrev pub all_kinds : Meaning
all_kinds = both number (both hour class)

-- absent is 4,294,967,295, which is no code
abbrev pub coded : Option ℕ → ℕ
coded None = 4294967295
coded (Some c) = c

-- r is the smallest code of the condition's set from v on
abbrev pub Found : Condition → ℕ → ℕ → Type 0
Found q v r = (o : Option ℕ) × Smallest (all_kinds.holds q) v o × (r ≡ coded o)
