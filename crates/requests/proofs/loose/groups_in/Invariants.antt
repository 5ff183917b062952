use Rattle.std.proofs.Common.{◌≡◌, vec_items}
use Rattle.std.specs.Slice.Iter.{chunks_rest, chunks_size}
use Rattle.requests.proofs.Groups.{Left}
use Rattle.requests.proofs.loose.groups_in.Given as goal

abbrev pub invariant-loop-group : goal.invariant-loop-group
invariant-loop-group l = record { ten : chunks_size l.group-iterator ≡ 10; left : Left l.line (chunks_rest l.group-iterator) (vec_items l.groups) }
