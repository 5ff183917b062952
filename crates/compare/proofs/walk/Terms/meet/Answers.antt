use Rattle.std.proofs.Common.{arith}
use Rattle.unification.proofs.Places.{bound_left, turned, level_same}
use Rattle.compare.proofs.walk.Terms.meet.Goals as goal

pub returns-then-x-y : goal.returns-then-x-y
returns-then-x-y c =
    turned _ _ _ _ _ _ _
    (bound_left _ _ _ _ _ _ c.entry_to.ensures c.args.self.now.good (omega arith) c.requires.straight c.requires.right c.requires.left.0 c.if-b-eq86.true (λ _. omega arith))

pub returns-then-y-x : goal.returns-then-y-x
returns-then-y-x c =
    bound_left _ _ _ _ _ _ c.entry_to-then-y-x.ensures c.args.self.now.good (omega arith) c.requires.straight c.requires.left c.requires.right.0 c.if-a-eq86.true (λ _. omega arith)

pub returns-else-y-x : goal.returns-else-y-x
returns-else-y-x c = level_same _ _ _ _ _ c.args.self.now.good c.requires.left.0 c.requires.right.0 c.requires.straight c.if-a-eq86.true c.if-b-eq86.true (omega arith)

pub returns-then-a-eq86 : goal.returns-then-a-eq86
returns-then-a-eq86 c =
    bound_left _ _ _ _ _ _ c.entry_to-then-a-eq86.ensures c.args.self.now.good (omega arith) c.requires.straight c.requires.left c.requires.right.0 c.if-a-eq86.true (λ v. absurd (c.if-b-eq86.false v))

pub returns-then-b-eq86-2 : goal.returns-then-b-eq86-2
returns-then-b-eq86-2 c =
    turned _ _ _ _ _ _ _
    (bound_left _ _ _ _ _ _ c.entry_to-then-b-eq86-2.ensures c.args.self.now.good (omega arith) c.requires.straight c.requires.right c.requires.left.0 c.if-b-eq86-2.true
    (λ v. absurd (c.if-a-eq86.false v)))
