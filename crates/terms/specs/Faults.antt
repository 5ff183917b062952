-- The refusals of signatures, rows and patterns: 19, 21 and 23 of their own, and the bank's 20 and 22, carried whole.
use Rattle.std.specs.Prelude.{ℕ, Some, None}
use Rattle.refusals.specs.declared.Refusal.{Refusal}
use Rattle.refusals.specs.declared.Layer.TheVariants.{Pattern}
use Rattle.kinds.specs.Faults.{bank_refusal}
use Rattle.terms.specs.declared.fault.PatternFault.{PatternFault}
use Rattle.terms.specs.declared.fault.PatternFault.TheVariants.{Bank, Arity, Structure, Constraint}

abbrev own : ℕ → ℕ → Refusal
own number place = record { number = number; layer = Pattern; place = Some place; field = None }

abbrev pub pattern_refusal : PatternFault → Refusal
pattern_refusal (Bank f) = bank_refusal f
pattern_refusal (Arity symbol) = own 19 symbol
pattern_refusal (Structure place) = own 21 place
pattern_refusal (Constraint place) = own 23 place
