use Rattle.terms.specs.Fitting.{cells_of}
use Rattle.image.proofs.Slots.{Begins}
use Rattle.image.proofs.encode.encode.Given as goal

abbrev pub invariant-loop-j : goal.invariant-loop-j
invariant-loop-j l = Begins l.line (cells_of l.key) l.j
