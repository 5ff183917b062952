-- Two patterns as one list of cells and one list of constraints.
use Rattle.std.specs.Prelude.{◌≡◌, length}
use Rattle.lists.specs.Lists.{items}
use Rattle.terms.specs.Fitting.{Description}
use Rattle.unification.specs.Pairs.{pair, both_constraints}
use Rattle.compare.specs.declared.join.Joint.{Joint}

-- the joint has the two patterns, the left one first
pub record Joined (left right : Description) (j : Joint) : Type 0 where
  pub cells : items j.cells ≡ pair left.cells right.cells
  pub left_cells : j.left ≡ length left.cells
  pub constraints : items j.constraints ≡ both_constraints left.constraints right.constraints
