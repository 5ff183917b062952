use Rattle.std.proofs.Common.{take, drop, arith}
use Rattle.image.proofs.Decoding.{tail_seven, count_read}
use Rattle.image.proofs.fields.read_count.Goals as goal

pub returns : goal.returns
returns c =
    let line = c.args.line.now in
    count_read (take 7 (drop 120 line)) c.in_ok-read_number.field-0 c.new.result (tail_seven line (omega arith)) (omega arith) c.in_ok-read_number.ensures c.new.ensures
