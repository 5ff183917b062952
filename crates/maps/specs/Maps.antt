-- Maps from rows to counts, and the figures of a survey, as relations that no representation enters.
use Rattle.std.specs.Prelude.{◌≡◌, ℕ, ◌+◌, ◌⊎◌, ◌↔◌, List, [], ◌∷◌, length, Some, None, Option}
use Rattle.std.proofs.Math.Logic.{ite}

-- the entry stands in the list
abbrev pub In : {A : Type 0} → A → List A → Type 0
In a [] = ⊥
In a (b ∷ l) = (a ≡ b) ⊎ In a l

-- no entry stands twice
abbrev pub Once : {A : Type 0} → List A → Type 0
Once [] = Unit {0}
Once (a ∷ l) = (¬ In a l) × Once l

-- what a map has at each row: a count, or absent
abbrev pub Map : Type 0 → Type 0
Map Row = Row → Option ℕ

-- two maps have the same at each row
abbrev pub Same : {Row : Type 0} → Map Row → Map Row → Type 0
Same {Row} m n = (r : Row) → m r ≡ n r

-- the map with v at the row, and all else as it was: what put (a count) and drop (absent) leave
abbrev pub with_row : {Row : Type 0} → ((r s : Row) → Dec (r ≡ s)) → Map Row → Row → Option ℕ → Map Row
with_row same m r v q = ite (same q r) v (m q)

-- the map has a count at the row
abbrev pub Has : {Row : Type 0} → Map Row → Row → Type 0
Has m r = (k : ℕ) × (m r ≡ Some k)

-- the list has each row that has a count, exactly once
pub record Listed {Row : Type 0} (rows : List Row) (m : Map Row) : Type 0 where
  pub once : Once rows
  pub those : (r : Row) → In r rows ↔ Has m r

-- n rows have a count
pub record Sized {Row : Type 0} (m : Map Row) (n : ℕ) : Type 0 where
  pub rows : List Row
  pub listed : Listed rows m
  pub counted : n ≡ length rows

-- the count, and 0 where absent
abbrev pub count_of : Option ℕ → ℕ
count_of (Some k) = k
count_of None = 0

-- the total of these rows' counts
abbrev pub total_of : {Row : Type 0} → Map Row → List Row → ℕ
total_of m [] = 0
total_of m (r ∷ rs) = count_of (m r) + total_of m rs

-- Of the rows that have a count, `number` fit, and `total` is the total of their counts.
pub record Figures {Row : Type 0} (fits : Row → Type 0) (m : Map Row) (number total : ℕ) : Type 0 where
  pub rows : List Row
  pub once : Once rows
  pub those : (r : Row) → In r rows ↔ (fits r × Has m r)
  pub counted : number ≡ length rows
  pub added : total ≡ total_of m rows
