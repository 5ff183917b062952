-- Why a sheet has no answer.
use Rattle.std.specs.Prelude.{◌≡◌, List}
use Rattle.maps.specs.Maps.{Map}
use Rattle.terms.specs.declared.cell.Cell.{Cell}
use Rattle.manager.specs.Checks.{Check, Refused}
use Rattle.sheets.specs.declared.fault.SheetFault.{SheetFault}
use Rattle.sheets.specs.declared.fault.SheetFault.TheVariants.{NoMemory, Manager}

-- the manager itself is refused, and the store's map is as it was; or memory is wanting
abbrev pub Unanswered : List Check → Map (List Cell) → Map (List Cell) → SheetFault → Type 0
Unanswered checks first last (Manager f) = Refused checks f × (last ≡ first)
Unanswered checks first last NoMemory = Unit {0}
