use Rattle.std.proofs.Common.{◌<◌, arith, rules}
use Rattle.std.proofs.lemmas.Bool.{ltb-true}
use Rattle.kinds.proofs.Masks.{bit_below}
use Rattle.kinds.proofs.single.bit.Goals as goal

pub returns-else-k-lt32 : goal.returns-else-k-lt32
returns-else-k-lt32 c =
    (λ e. absurd (omega (arith, ltb-true c.args.k 32 e)), λ b. absurd (let l : c.args.k < 32 = bit_below c.args.mask 32 c.args.k (search rules) b in omega arith))
