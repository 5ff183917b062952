-- The bank's refusals: 20 for a cell that is no value, 22 for a condition that no kind knows.
use Rattle.std.specs.Prelude.{Some, None}
use Rattle.refusals.specs.declared.Refusal.{Refusal}
use Rattle.refusals.specs.declared.Layer.TheVariants.{Bank}
use Rattle.kinds.specs.declared.fault.BankFault.{BankFault}
use Rattle.kinds.specs.declared.fault.BankFault.TheVariants.{Value, Condition}

abbrev pub bank_refusal : BankFault → Refusal
bank_refusal (Value p) = record { number = 20; layer = Bank; place = Some p; field = None }
bank_refusal (Condition p) = record { number = 22; layer = Bank; place = Some p; field = None }
