-- The refusals of an opening: those of the store and of the signature, carried whole.
use Rattle.refusals.specs.declared.Refusal.{Refusal}
use Rattle.terms.specs.Faults.{pattern_refusal}
use Rattle.stores.specs.Faults.{store_refusal}
use Rattle.image.specs.declared.fault.OpeningFault.{OpeningFault}
use Rattle.image.specs.declared.fault.OpeningFault.TheVariants.{Store, Pattern}

abbrev pub opening_refusal : OpeningFault → Refusal
opening_refusal (Store f) = store_refusal f
opening_refusal (Pattern f) = pattern_refusal f
