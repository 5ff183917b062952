use Rattle.std.proofs.Common.{◌+◌, ◌-◌, ◌*◌}
use Rattle.unification.proofs.Places.{unseen}
use Rattle.compare.proofs.walk.Terms.+unify.Given as goal

abbrev pub decreases-unify : goal.decreases-unify
decreases-unify l = unseen l.seen * 100 + (48 - l.i) + (48 - l.j)
