-- Numbers, hours and classes together, in this order.
use Rattle.kinds.specs.Meaning.{Meaning}
use Rattle.kinds.specs.Banks.{both}
use Rattle.kinds.specs.Sets.{number, hour, class}

abbrev pub together : Meaning
together = both number (both hour class)
