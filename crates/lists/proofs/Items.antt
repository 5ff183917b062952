-- What is known of every list of a bounded length.
use Rattle.std.proofs.Common.{ℕ, ◌≤◌, length, arith}
use Rattle.std.proofs.lemmas.List.{length-take-le}
use Rattle.lists.specs.declared.up_to.UpTo.{UpTo}
use Rattle.lists.specs.Lists.{items}

pub items_few : {T : Type 0} {N : ℕ} (l : UpTo T N) → length (items l) ≤ N
items_few l = let e = l.long in let k = l.few in let n = length-take-le l.len l.slots (omega arith) in omega arith
