-- Leaves among the bound variables.
use Rattle.std.specs.Prelude.{◌≡◌, ℕ, Bool, List}
use Rattle.terms.specs.declared.cell.Cell.{Cell}
use Rattle.unification.specs.Sheets.{entry}
use Rattle.unification.specs.Orders.{Chosen}
use Rattle.compare.specs.declared.order.Leaf.{Leaf}

-- the leaf is a waiting variable whose term has no waiting variable, and the place of that term
pub record IsLeaf (sig : List ℕ) (cells sheet : List Cell) (wait : List Bool) (leaf : Leaf) : Type 0 where
  pub chosen : Chosen sig cells sheet wait leaf.variable
  pub place : leaf.place ≡ entry sheet leaf.variable
