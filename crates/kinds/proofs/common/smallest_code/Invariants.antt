use Rattle.std.proofs.Common.{ℕ, ◌-◌, ◌<◌, ◌∷◌}
use Rattle.kinds.specs.Common.{Holds}
use Rattle.kinds.proofs.common.smallest_code.Given as goal

abbrev pub invariant-rise : goal.invariant-rise
invariant-rise g l = (c : ℕ) → c < l.v → Holds (g.K.Kind.means l.kind) (l.first ∷ l.rest) c → ⊥

abbrev pub decreases-rise : goal.decreases-rise
decreases-rise g l = 999999999 - l.v
