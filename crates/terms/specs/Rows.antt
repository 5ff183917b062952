-- Cells that are kept as rows, and that two lists of cells are equal or not.
use Rattle.std.specs.Prelude.{◌≡◌, ◌^◌, ◌<◌, ◌≤◌, Bool, true, false, List, length, refl}
use Rattle.std.proofs.Common.{Decides, sym, ap, ◌∙◌, rules}
use Rattle.std.specs.List.{AllByRecursion}
use Rattle.std.specs.Cmp.Rules.{comparing}
use Rattle.std.proofs.lemmas.Slice.Eq.{slice_eq-Decides}
use Rattle.std.proofs.lemmas.Bool.{both_ways}
use Rattle.terms.specs.declared.cell.Cell.{Cell}
use Rattle.terms.specs.Equality.{cell_eq, cells_eq}

-- cells that a store can keep: 1 to 12, with numbers of at most nine digits. All rows of a signature and a kind are such.
pub record Storable (cs : List Cell) : Type 0 where
  pub some : 0 < length cs
  pub few : length cs ≤ 12
  pub short : AllByRecursion (λ c. c.number < 10 ^ 9) cs

pub cell_eq_decides : (a b : Cell) → Decides (cell_eq a b) (a ≡ b)
cell_eq_decides a b = search (comparing, rules)

pub cells_eq_decides : (xs ys : List Cell) → Decides (cells_eq xs ys) (xs ≡ ys)
cells_eq_decides xs ys = slice_eq-Decides cell_eq_decides xs ys (cells_eq xs ys) refl

pub same_true : (xs ys : List Cell) → cells_eq xs ys ≡ true → xs ≡ ys
same_true xs ys e = (cells_eq_decides xs ys).0 e

pub same_self : (xs : List Cell) → cells_eq xs xs ≡ true
same_self xs = (cells_eq_decides xs xs).1 refl

decided_by : (xs ys : List Cell) (b : Bool) → cells_eq xs ys ≡ b → Dec (xs ≡ ys)
decided_by xs ys true e = yes (same_true xs ys e)
decided_by xs ys false e = no (λ q. both_ways (cells_eq xs ys) e (ap (cells_eq xs) (sym q) ∙ same_self xs))

-- two rows are equal or not
pub decided : (xs ys : List Cell) → Dec (xs ≡ ys)
decided xs ys = decided_by xs ys (cells_eq xs ys) refl
