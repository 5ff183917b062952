-- What comparing cells, and lists of cells, answers.
use Rattle.std.specs.Prelude.{Bool, ◌&&◌, nat_eq, List}
use Rattle.std.specs.Cmp.Lexicographic.{pointwise}
use Rattle.terms.specs.declared.cell.Cell.{Cell}

abbrev pub cell_eq : Cell → Cell → Bool
cell_eq a b = nat_eq a.letter b.letter && nat_eq a.number b.number

abbrev pub cells_eq : List Cell → List Cell → Bool
cells_eq = pointwise cell_eq
