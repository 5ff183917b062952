-- The first terms of a list of cells.
use Rattle.std.specs.Prelude.{◌≡◌, ℕ, zero, suc, ◌+◌, List, [], ◌∷◌, drop, slice_index_or}
use Rattle.terms.specs.declared.cell.Cell.{Cell}
use Rattle.terms.specs.Terms.{arity}

-- the cells begin with n terms
abbrev pub Begins : List ℕ → ℕ → List Cell → Type 0
Begins sig n [] = n ≡ 0
Begins sig zero (c ∷ cs) = Unit {0}
Begins sig (suc n) (c ∷ cs) = Begins sig (arity sig c + n) cs

-- those n terms, and what follows them
abbrev pub terms : List ℕ → ℕ → List Cell → List Cell
terms sig n [] = []
terms sig zero (c ∷ cs) = []
terms sig (suc n) (c ∷ cs) = c ∷ terms sig (arity sig c + n) cs

abbrev pub after : List ℕ → ℕ → List Cell → List Cell
after sig n [] = []
after sig zero (c ∷ cs) = c ∷ cs
after sig (suc n) (c ∷ cs) = after sig (arity sig c + n) cs

-- the cell at a place
abbrev pub at : List Cell → ℕ → Cell
at cells i = slice_index_or cells i (record { letter = 0; number = 0 })

-- the n terms at a place
abbrev pub part : List ℕ → List Cell → ℕ → ℕ → List Cell
part sig cells i n = terms sig n (drop i cells)
