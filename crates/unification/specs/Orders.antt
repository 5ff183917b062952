-- How the bindings of a sheet are put in order.
use Rattle.std.specs.Prelude.{◌≡◌, ℕ, suc, ◌<◌, ◌≤◌, Bool, true, false, ◌⊎◌, List, [], ◌∷◌, length, MatchBool, slice_index_or}
use Rattle.std.specs.List.{AllByRecursion}
use Rattle.terms.specs.declared.cell.Cell.{Cell}
use Rattle.terms.specs.Terms.{Subst}
use Rattle.unification.specs.Fronts.{part}
use Rattle.unification.specs.Unifiers.{Replacement, Assign}
use Rattle.unification.specs.Sequences.{Lacks, Proper, Solves, Unnamed}
use Rattle.unification.specs.Sheets.{entry, Sol}

-- a variable stands in the cells
abbrev pub Has : ℕ → List Cell → Type 0
Has x [] = ⊥
Has x (c ∷ cs) = ((c.letter ≡ 86) × (c.number ≡ x)) ⊎ Has x cs

-- a variable whose binding is not yet placed
abbrev pub IsOpen : List Bool → ℕ → Type 0
IsOpen wait x = slice_index_or wait x false ≡ true

-- how many there are
abbrev pub opens : List Bool → ℕ
opens [] = 0
opens (true ∷ bs) = suc (opens bs)
opens (false ∷ bs) = opens bs

-- whether the term at a place has no open variable
abbrev pub Ready : List ℕ → List Cell → List Bool → ℕ → Bool → Type 0
Ready sig cells wait i r =
    MatchBool r ((y : ℕ) → IsOpen wait y → Lacks y (part sig cells i 1)) ((y : ℕ) × (y < 16) × IsOpen wait y × Has y (part sig cells i 1))

-- each open variable is bound
abbrev pub Within : List Cell → List Cell → List Bool → Type 0
Within cells sheet wait = (x : ℕ) → IsOpen wait x → (x < 16) × (entry sheet x < length cells)

-- each open variable has an open variable in its term
abbrev pub Stuck : List ℕ → List Cell → List Cell → List Bool → Type 0
Stuck sig cells sheet wait = (x : ℕ) → x < 16 → IsOpen wait x → (y : ℕ) × (y < 16) × IsOpen wait y × Has y (part sig cells (entry sheet x) 1)

-- an open variable whose term has no open variable
pub record Chosen (sig : List ℕ) (cells sheet : List Cell) (wait : List Bool) (x : ℕ) : Type 0 where
  pub small : x < 16
  pub is_open : IsOpen wait x
  pub lacks : (y : ℕ) → IsOpen wait y → Lacks y (part sig cells (entry sheet x) 1)

-- no assignment solves the sheet
abbrev pub Unsolved : List ℕ → List Cell → List Cell → Type 0
Unsolved sig cells sheet = (σ : Subst) → Assign sig σ → Sol sig cells sheet σ → ⊥

-- a proper sequence with the sheet's solutions, of its bound variables and of terms that stand among the cells
pub record Ordered (sig : List ℕ) (cells sheet : List Cell) (bs : List Replacement) : Type 0 where
  pub proper : Proper sig bs
  pub solves : (σ : Subst) → Sol sig cells sheet σ → Solves σ bs
  pub solved : (σ : Subst) → Solves σ bs → Sol sig cells sheet σ
  pub free : (y : ℕ) → length cells ≤ entry sheet y → Unnamed y bs
  pub drawn : AllByRecursion (λ b. (p : ℕ) × (b.term ≡ part sig cells p 1)) bs
