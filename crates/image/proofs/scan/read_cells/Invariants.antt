use Rattle.lists.specs.Lists.{items}
use Rattle.image.proofs.Slots.{Begun}
use Rattle.image.proofs.scan.read_cells.Given as goal

abbrev pub invariant-loop-field : goal.invariant-loop-field
invariant-loop-field l = Begun l.line (items l.found) l.field-index
