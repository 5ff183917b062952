-- What a kind of values means: the letters that it knows, the codes of each, and the conditions that it knows, each with its set of codes.
use Rattle.std.specs.Prelude.{◌≡◌, ℕ, ◌≤◌, true, is_some, Some, None, Option}
use Rattle.kinds.specs.declared.condition.Condition.{Condition}

pub record Meaning : Type 1 where
  -- the top code of a letter that the kind knows
  pub tops : ℕ → Option ℕ
  -- the letter that a condition belongs to, where the kind knows the condition
  pub letters : Condition → Option ℕ
  -- the codes of the condition's set
  pub holds : Condition → ℕ → Type 0

-- there is a top, and the code c is at most the top
abbrev pub Under : Option ℕ → ℕ → Type 0
Under None c = ⊥
Under (Some t) c = c ≤ t

-- the letter l and the code c make a value that the kind knows
abbrev pub Value : Meaning → ℕ → ℕ → Type 0
Value M l c = Under (M.tops l) c

-- the kind knows the condition
abbrev pub Known : Meaning → Condition → Type 0
Known M q = is_some (M.letters q) ≡ true

-- What every kind keeps: tops are at most 999,999,999; the letters of symbols, S (83), and of variables, V (86), are no value
-- letters; a condition belongs to a letter that is known; and its set has only values of that letter.
pub record Sound (M : Meaning) : Type 0 where
  pub bounded : (l t : ℕ) → M.tops l ≡ Some t → t ≤ 999999999
  pub no_symbol : M.tops 83 ≡ None
  pub no_variable : M.tops 86 ≡ None
  pub belongs : (q : Condition) (l : ℕ) → M.letters q ≡ Some l → is_some (M.tops l) ≡ true
  pub known : (q : Condition) (c : ℕ) → M.holds q c → Known M q
  pub values : (q : Condition) (l c : ℕ) → M.letters q ≡ Some l → M.holds q c → Value M l c
