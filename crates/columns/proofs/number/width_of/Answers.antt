use Rattle.std.proofs.Common.{arith}
use Rattle.columns.proofs.Writing.{front_length, front_none, decimal_length}
use Rattle.columns.proofs.number.width_of.Goals as goal

pub loop-rest-init : goal.loop-rest-init
loop-rest-init c = let l = decimal_length c.args.n (omega arith) in (omega arith, omega arith, omega arith)

pub loop-rest-preserved : goal.loop-rest-preserved
loop-rest-preserved c =
    let i = c.loop-rest.invariant in
    let l = front_length c.loop-rest.rest (omega arith) in
    (omega arith, omega arith, omega arith)

pub returns : goal.returns
returns c =
    let i = c.loop-rest.invariant in
    let z = front_none c.loop-rest.rest (omega arith) in
    record { value = omega arith; some = omega arith }
