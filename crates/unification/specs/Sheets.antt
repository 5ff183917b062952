-- What a sheet of sixteen entries says of two patterns that lie one behind the other in one list of cells.
use Rattle.std.specs.Prelude.{◌≡◌, ℕ, ◌<◌, ◌≤◌, Bool, true, false, cond, ◌⊎◌, List, length, drop, replicate, MatchBool, ◌==◌, ◌≢◌, slice_index_or}
use Rattle.terms.specs.declared.cell.Cell.{Cell}
use Rattle.terms.specs.Terms.{Subst, apply}
use Rattle.unification.specs.Fronts.{Begins, at, part}
use Rattle.unification.specs.Unifiers.{Assign}

-- what a comparison may assume of the cells: few, each variable below 16, and at each place a term
pub record Good (sig : List ℕ) (cells : List Cell) : Type 0 where
  pub few : length cells ≤ 48
  pub vars : (k : ℕ) → k < length cells → (at cells k).letter ≡ 86 → (at cells k).number < 16
  pub whole : (k : ℕ) → k < length cells → Begins sig 1 (drop k cells)

-- an entry holds the place of its variable's term; a free variable's entry has a space (32) for its letter, and no place among the cells
abbrev pub entry_for : ℕ → Cell
entry_for p = record { letter = 84; number = p }

abbrev pub place_in : Cell → ℕ
place_in e = cond (e.letter == 32) 48 e.number

abbrev pub entry : List Cell → ℕ → ℕ
entry sheet x = place_in (at sheet x)

-- a blank cell or entry; and a sheet on which every entry is blank
abbrev pub blank : Cell
blank = record { letter = 32; number = 0 }

abbrev pub Blank : List Cell → Type 0
Blank sheet = sheet ≡ replicate 16 blank

-- σ makes each bound variable equal to its term
abbrev pub Sol : List ℕ → List Cell → List Cell → Subst → Type 0
Sol sig cells sheet σ = (x : ℕ) → x < 16 → entry sheet x < length cells → σ x ≡ apply σ (part sig cells (entry sheet x) 1)

-- a variable that is bound to a variable is bound to a smaller one
abbrev pub Straight : List Cell → List Cell → Type 0
Straight cells sheet = (x : ℕ) → x < 16 → entry sheet x < length cells → (at cells (entry sheet x)).letter ≡ 86 → (at cells (entry sheet x)).number < x

-- no bound variable stands at the place
abbrev pub Rooted : List Cell → List Cell → ℕ → Type 0
Rooted cells sheet p = (p < length cells) × ((at cells p).letter ≡ 86 → length cells ≤ entry sheet (at cells p).number)

-- the place r stands for the place i
pub record Derefs (sig : List ℕ) (cells sheet : List Cell) (i r : ℕ) : Type 0 where
  pub means : (σ : Subst) → Sol sig cells sheet σ → apply σ (part sig cells i 1) ≡ apply σ (part sig cells r 1)
  pub rooted : Rooted cells sheet r
  pub moved : (r ≢ i) → (at cells i).letter ≡ 86
  pub fixed : ((at cells i).letter ≢ 86) → r ≡ i

-- σ makes the n terms at the two places equal
abbrev pub Level : List ℕ → List Cell → ℕ → ℕ → ℕ → Subst → Type 0
Level sig cells i j n σ = apply σ (part sig cells i n) ≡ apply σ (part sig cells j n)

-- a variable on the way here has more cells than what is still to be compared
abbrev pub Inside : List ℕ → List Cell → ℕ → ℕ → List Bool → Subst → Type 0
Inside sig cells i n seen σ = (x : ℕ) → slice_index_or seen x false ≡ true → length (apply σ (part sig cells i n)) < length (σ x)

-- the sheet's solutions after are just those before that make the two sides level
pub record Merged (sig : List ℕ) (cells before behind : List Cell) (i j n : ℕ) : Type 0 where
  pub straight : Straight cells behind
  pub sound : (σ : Subst) → Assign sig σ → Sol sig cells behind σ → Sol sig cells before σ × Level sig cells i j n σ
  pub full : (σ : Subst) → Assign sig σ → Sol sig cells before σ → Level sig cells i j n σ → Sol sig cells behind σ

-- no solution makes them level
abbrev pub Clash : List ℕ → List Cell → List Cell → ℕ → ℕ → ℕ → List Bool → Type 0
Clash sig cells sheet i j n seen = (σ : Subst) → Assign sig σ → Sol sig cells sheet σ → Level sig cells i j n σ → Inside sig cells i n seen σ → ⊥

abbrev pub Stepped : List ℕ → List Cell → List Cell → List Cell → ℕ → ℕ → ℕ → List Bool → Bool → Type 0
Stepped sig cells before behind i j n seen r = MatchBool r (Merged sig cells before behind i j n) (Clash sig cells before i j n seen)

-- x is the variable at one of two places
abbrev pub Names : List Cell → ℕ → ℕ → ℕ → Type 0
Names cells i j x = (((at cells i).letter ≡ 86) × ((at cells i).number ≡ x)) ⊎ (((at cells j).letter ≡ 86) × ((at cells j).number ≡ x))
