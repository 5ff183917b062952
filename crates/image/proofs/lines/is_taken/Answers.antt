use Rattle.std.proofs.Common.{arith}
use Rattle.image.proofs.Arrays.{taken_by}
use Rattle.image.proofs.lines.is_taken.Goals as goal

pub returns : goal.returns
returns c = taken_by c.args.line.now c.is_blank.result (omega arith) c.is_blank.ensures
