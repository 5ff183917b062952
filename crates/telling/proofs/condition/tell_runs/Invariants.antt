use Rattle.std.proofs.Common.{◌-◌}
use Rattle.telling.proofs.condition.tell_runs.Given as goal

abbrev pub decreases-loop-run : goal.decreases-loop-run
decreases-loop-run g l = l.top - l.at
