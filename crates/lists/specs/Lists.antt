-- What a list of a bounded length holds.
use Rattle.std.specs.Prelude.{ℕ, List, take}
use Rattle.lists.specs.declared.up_to.UpTo.{UpTo}

-- the items in their order: what lies past them is nobody's
abbrev pub items : {T : Type 0} {N : ℕ} → UpTo T N → List T
items l = take l.len l.slots
