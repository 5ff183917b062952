-- A request's columns as one value.
use Rattle.std.specs.Prelude.{◌≡◌, ℕ, ◌^◌, ◌<◌, List, [], Some, None, Option, ◌≢◌}
use Rattle.std.specs.List.{AllByRecursion}
use Rattle.terms.specs.Fitting.{Description}
use Rattle.terms.specs.declared.cell.Cell.{Cell}
use Rattle.serial.specs.History.{Call.begin, Call.reserve, Call.look, Call.survey, Call.write, Call.strike, Call.commit, Call.abandon}
use Rattle.requests.specs.declared.request.RequestLine.{RequestLine}
use Rattle.requests.specs.Layout.{Ask, fields, LaidCell, LaidConstraint}

abbrev cells_alone : List Cell → Description
cells_alone cells = record { cells = cells; constraints = [] }

-- the cells and the conditions of a call; a call without them has none
abbrev pub described : Ask → Description
described None = cells_alone []
described (Some (begin planner)) = cells_alone []
described (Some (reserve t right d)) = d
described (Some (look t cells)) = cells_alone cells
described (Some (survey t n)) = cells_alone []
described (Some (write t cells k)) = cells_alone cells
described (Some (strike t cells)) = cells_alone cells
described (Some (commit t)) = cells_alone []
described (Some (abandon t)) = cells_alone []

-- the columns hold the fields of what is asked, its cells apart from its conditions
pub record LineOf (a : Ask) (l : RequestLine) : Type 0 where
  pub word : l.word ≡ (fields a).word
  pub first : l.first ≡ (fields a).first
  pub second : l.second ≡ (fields a).second
  pub right : l.right ≡ (fields a).right
  pub cells : l.cells.now ≡ (described a).cells
  pub constraints : l.constraints.now ≡ (described a).constraints

-- there is room for a number, if there is one
abbrev pub Room : Option ℕ → Type 0
Room None = Unit {0}
Room (Some n) = n < 10 ^ 7

-- each column has room for what it holds, and none holds a newline
pub record Roomy (l : RequestLine) : Type 0 where
  pub first : Room l.first
  pub second : Room l.second
  pub right : l.right ≢ 10
  pub cells : AllByRecursion LaidCell l.cells.now
  pub constraints : AllByRecursion LaidConstraint l.constraints.now
