use Rattle.std.proofs.Common.{◌-◌}
use Rattle.compare.proofs.walk.Bound.+write.Given as goal

abbrev pub decreases-write : goal.decreases-write
decreases-write l = 13 - l.at
