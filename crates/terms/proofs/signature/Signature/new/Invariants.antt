use Rattle.std.proofs.Common.{take}
use Rattle.terms.specs.Proper.{Arities}
use Rattle.terms.proofs.signature.Signature.new.Given as goal

abbrev pub invariant-loop-symbol : goal.invariant-loop-symbol
invariant-loop-symbol l = Arities (take l.symbol l.arity-items)
