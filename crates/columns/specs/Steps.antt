-- The steps by which numbers are read and written.
use Rattle.std.specs.Prelude.{ℕ, ◌+◌, ◌-◌, ◌%◌, cond, ◌==◌, nat_lt}

-- the last digit of what is left of a number, or a space where nothing is left
abbrev pub mark : ℕ → ℕ
mark rest = cond (rest == 0) 32 (48 + rest % 10)

-- what a byte is worth: a digit its number, and any other byte nothing
abbrev pub worth : ℕ → ℕ
worth b = cond (nat_lt b 48) 0 (cond (nat_lt b 58) (b - 48) 0)
