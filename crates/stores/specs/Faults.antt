-- The refusals of stores: 31 and 40 without a place, 41 and 42 at a line, and 41 with the field of the line.
use Rattle.std.specs.Prelude.{ℕ, Some, None, Option}
use Rattle.refusals.specs.declared.Refusal.{Refusal}
use Rattle.refusals.specs.declared.Layer.TheVariants.{Store}
use Rattle.stores.specs.declared.fault.StoreFault.{StoreFault}
use Rattle.stores.specs.declared.fault.StoreFault.TheVariants.{Full, Length, Line, Again}

abbrev own : ℕ → Option ℕ → Option ℕ → Refusal
own number place field = record { number = number; layer = Store; place = place; field = field }

abbrev pub store_refusal : StoreFault → Refusal
store_refusal Full = own 31 None None
store_refusal Length = own 40 None None
store_refusal (Line line field) = own 41 (Some line) (Some field)
store_refusal (Again line) = own 42 (Some line) None
