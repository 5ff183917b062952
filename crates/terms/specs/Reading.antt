-- What a check of cells, of constraints and of arities answers: passed exactly where they are proper, and else the first fault.
use Rattle.std.specs.Prelude.{◌≡◌, ℕ, ◌+◌, ◌-◌, ◌<◌, ◌≤◌, ◌⊎◌, List, get_or, Ok, Err, Result, slice_index_or}
use Rattle.refusals.specs.Places.{FirstFault}
use Rattle.kinds.specs.Meaning.{Meaning, Value}
use Rattle.kinds.specs.declared.fault.BankFault.TheVariants.{Value as BadValue, Condition as BadCondition}
use Rattle.terms.specs.declared.cell.Cell.{Cell}
use Rattle.terms.specs.declared.constraint.Constraint.{Constraint as Constraintᵗ}
use Rattle.terms.specs.declared.fault.PatternFault.{PatternFault}
use Rattle.terms.specs.declared.fault.PatternFault.TheVariants.{Bank, Arity, Structure, Constraint}
use Rattle.terms.specs.declared.pattern.Pattern.{Pattern as Patternᵗ}
use Rattle.terms.specs.declared.row.Row.{Row as Rowᵗ}
use Rattle.terms.specs.declared.shape.Shape.{Shape}
use Rattle.terms.specs.declared.signature.Signature.{Signature}
use Rattle.terms.specs.Terms.{arity, Fine}
use Rattle.terms.specs.Fitting.{described, cells_of}
use Rattle.terms.specs.Proper.{Arities, RowCells, PatternCells, Constraints, ProperPattern}
use Rattle.terms.specs.Shapes.{limit, variables}

-- the cell has a value letter, and is no value
pub record Stray (M : Meaning) (c : Cell) : Type 0 where
  pub no_symbol : c.letter ≡ 83 → ⊥
  pub no_variable : c.letter ≡ 86 → ⊥
  pub no_value : Value M c.letter c.number → ⊥

-- a stray value stands at place i (and past the end stands none)
abbrev pub StrayAt : Meaning → List Cell → ℕ → Type 0
StrayAt M cs i = (d : Cell) → Stray M (slice_index_or cs i d)

-- the fault of the cell at place i: the bank's if the cell is a stray value, and else the pattern's, as where cells lack
abbrev pub CellFault : Meaning → List Cell → ℕ → PatternFault → Type 0
CellFault M cs i f = ((f ≡ Bank (BadValue i)) × StrayAt M cs i) ⊎ ((f ≡ Structure i) × (StrayAt M cs i → ⊥))

-- the first cell that no proper cells begin with
pub record CellsRefused (Proper : List Cell → Type 0) (M : Meaning) (cs : List Cell) (f : PatternFault) : Type 0 where
  pub place : ℕ
  pub first : FirstFault Proper cs place
  pub fault : CellFault M cs place f

abbrev pub CellsChecked : (List Cell → Type 0) → Meaning → List Cell → Result (Unit {0}) PatternFault → Type 0
CellsChecked Proper M cs (Ok u) = Proper cs
CellsChecked Proper M cs (Err f) = CellsRefused Proper M cs f

-- the fault of the constraint at place i: the pattern's for a ninth one and for a variable above 7, and else the bank's
abbrev pub ConstraintFault : List Constraintᵗ → ℕ → PatternFault → Type 0
ConstraintFault ks i f =
    ((f ≡ Constraint i) × ((8 ≤ i) ⊎ ((d : Constraintᵗ) → 8 ≤ (get_or ks i d).variable)))
    ⊎ ((f ≡ Bank (BadCondition i)) × (i < 8) × ((d : Constraintᵗ) → (get_or ks i d).variable < 8))

-- the first constraint that no proper constraints begin with
pub record ConstraintsRefused (M : Meaning) (ks : List Constraintᵗ) (f : PatternFault) : Type 0 where
  pub place : ℕ
  pub first : FirstFault (Constraints M) ks place
  pub fault : ConstraintFault ks place f

abbrev pub ConstraintsChecked : Meaning → List Constraintᵗ → Result (Unit {0}) PatternFault → Type 0
ConstraintsChecked M ks (Ok u) = Constraints M ks
ConstraintsChecked M ks (Err f) = ConstraintsRefused M ks f

-- a pattern that is read is as it was written; the cells are checked before the constraints
abbrev pub PatternRead : List ℕ → Meaning → List Cell → List Constraintᵗ → Result Patternᵗ PatternFault → Type 0
PatternRead sig M cs ks (Ok p) = (described p ≡ record { cells = cs; constraints = ks }) × ProperPattern sig M (described p)
PatternRead sig M cs ks (Err f) =
    CellsRefused (PatternCells sig M) M cs f ⊎ (PatternCells sig M cs × ConstraintsRefused M ks f)

abbrev pub RowRead : List ℕ → Meaning → List Cell → Result Rowᵗ PatternFault → Type 0
RowRead sig M cs (Ok r) = (cells_of r ≡ cs) × RowCells sig M cs
RowRead sig M cs (Err f) = CellsRefused (RowCells sig M) M cs f

-- the first symbol whose arity no proper arities have there
abbrev pub SignatureRead : List ℕ → Result Signature PatternFault → Type 0
SignatureRead ns (Ok s) = (s.arities ≡ ns) × Arities ns
SignatureRead ns (Err f) = (i : ℕ) × FirstFault Arities ns i × (f ≡ Arity i)

-- What the scanner asks of one cell, where `place` cells are before it and `to_come` terms are still to come: that it is a
-- cell of the shape, that a term is to come, that the first cell is a symbol, and that what is then to come has room.
pub record GoesOn (sig : List ℕ) (M : Meaning) (v limit : ℕ) (c : Cell) (place to_come : ℕ) : Type 0 where
  pub fine : Fine M v c
  pub wanted : 0 < to_come
  pub starts : place ≡ 0 → c.letter ≡ 83
  pub room : place + 1 + (to_come - 1 + arity sig c) ≤ limit

-- how many terms are to come after the cell; or its fault
abbrev pub Scanned : List ℕ → Meaning → Shape → Cell → ℕ → ℕ → Result ℕ PatternFault → Type 0
Scanned sig M s c place to_come (Ok n) = GoesOn sig M (variables s) (limit s) c place to_come × (n ≡ to_come - 1 + arity sig c)
Scanned sig M s c place to_come (Err f) =
    (GoesOn sig M (variables s) (limit s) c place to_come → ⊥)
    × (((f ≡ Bank (BadValue place)) × Stray M c) ⊎ ((f ≡ Structure place) × (Stray M c → ⊥)))
