use Rattle.std.proofs.Common.{eqb, take, arith}
use Rattle.std.proofs.lemmas.List.{length-take-le}
use Rattle.std.proofs.lemmas.List.Sums.{count_by-le-length}
use Rattle.ledger.specs.declared.entry.PendingChange.{PendingChange}
use Rattle.manager.proofs.state.Manager.count_changes.Goals as goal

-- there are at most 128
pub overflow_cast-result : goal.overflow_cast-result
overflow_cast-result g c =
    let n = c.args.self.now.changes.len in
    let xs = c.args.memory.now.changes.now in
    let z = c.requires.changes in
    let m = c.args.self.now.many in
    let e = c.count.ensures in
    let l = count_by-le-length (λ (x : PendingChange). eqb x.owner c.args.transaction) (take n xs) in
    let k = length-take-le n xs (omega arith) in
    omega arith
