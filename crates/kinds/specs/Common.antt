-- The smallest value that meets several conditions.
use Rattle.std.specs.Prelude.{◌≡◌, ℕ, ◌<◌, ◌≤◌, List, Some, None, Option}
use Rattle.std.specs.List.{AllByRecursion}
use Rattle.kinds.specs.declared.condition.Condition.{Condition}
use Rattle.kinds.specs.declared.common.Value.{Value}
use Rattle.kinds.specs.Meaning.{Meaning}

-- the value of the letter l and the code c is in the condition's set
abbrev pub Met : Meaning → Condition → ℕ → ℕ → Type 0
Met M q l c = (M.letters q ≡ Some l) × M.holds q c

-- and in the set of each condition of the list
abbrev pub Meets : Meaning → List Condition → ℕ → ℕ → Type 0
Meets M qs l c = AllByRecursion (λ q. Met M q l c) qs

-- none meets them all; or this one does, and each that does has its letter and no smaller code
abbrev pub SmallestValue : Meaning → List Condition → Option Value → Type 0
SmallestValue M qs None = (l c : ℕ) → Meets M qs l c → ⊥
SmallestValue M qs (Some v) =
    Meets M qs v.letter v.code × ((l c : ℕ) → Meets M qs l c → (l ≡ v.letter) × (v.code ≤ c))

-- each condition of the list belongs to the letter l
abbrev pub OfLetter : Meaning → List Condition → ℕ → Type 0
OfLetter M qs l = AllByRecursion (λ q. M.letters q ≡ Some l) qs

-- the letter that each condition of the list belongs to; none if there is no such letter
abbrev pub OneLetter : Meaning → List Condition → Option ℕ → Type 0
OneLetter M qs None = (l : ℕ) → OfLetter M qs l → ⊥
OneLetter M qs (Some l) = OfLetter M qs l

-- the code c is in each set
abbrev pub Holds : Meaning → List Condition → ℕ → Type 0
Holds M qs c = AllByRecursion (λ q. M.holds q c) qs

-- one pass over the sets from v on: `None` if no code from v on is in all; `Some m`: none below m is, and m is above v, or v is in all
abbrev pub Passed : Meaning → List Condition → ℕ → Option ℕ → Type 0
Passed M qs v None = (c : ℕ) → v ≤ c → Holds M qs c → ⊥
Passed M qs v (Some m) =
    (v ≤ m) × ((c : ℕ) → v ≤ c → c < m → Holds M qs c → ⊥) × (m ≡ v → Holds M qs v) × (v < m → m ≤ 999999999)
