-- Two kinds as one: what the first part knows is the first part's, and the rest is the second's.
use Rattle.std.specs.Prelude.{ℕ, Some, None, Option}
use Rattle.kinds.specs.Meaning.{Meaning}

-- the first part's answer, and where it has none the second's
abbrev pub or_else : Option ℕ → Option ℕ → Option ℕ
or_else (Some x) y = Some x
or_else None y = y

-- the letter l, where the first part gives it no top
abbrev pub unless_known : Option ℕ → ℕ → Option ℕ
unless_known (Some t) l = None
unless_known None l = Some l

-- the second part's letter of a condition, where that letter is left over by the first part's tops
abbrev pub left_over : (ℕ → Option ℕ) → Option ℕ → Option ℕ
left_over tops (Some l) = unless_known (tops l) l
left_over tops None = None

-- the set P where the first part knows the condition, the set Q where it is left over to the second, and else nothing
abbrev pub Part : Option ℕ → Option ℕ → Type 0 → Type 0 → Type 0
Part (Some l) m P Q = P
Part None (Some l) P Q = Q
Part None None P Q = ⊥

abbrev pub both : Meaning → Meaning → Meaning
both M N = record {
  tops = λ l. or_else (M.tops l) (N.tops l);
  letters = λ q. or_else (M.letters q) (left_over M.tops (N.letters q));
  holds = λ q c. Part (M.letters q) (left_over M.tops (N.letters q)) (M.holds q c) (N.holds q c);
}
