use Rattle.std.proofs.Common.{vec_items}
use Rattle.std.specs.List.{flat_map}
use Rattle.columns.specs.Columns.{cell_text}
use Rattle.requests.specs.Layout.{three}
use Rattle.requests.proofs.Pushes.{joined_next, joined_last}
use Rattle.requests.proofs.push.push_constraints.Goals as goal

pub loop-constraint-preserved : goal.loop-constraint-preserved
loop-constraint-preserved c =
    joined_next (λ k. flat_map cell_text (three k)) (vec_items c.args.out.now) c.args.constraints.now c.loop-constraint.constraint-index _
    c.loop-constraint-test.true c.loop-constraint.invariant c.in_ok-push_constraint.ensures

pub returns : goal.returns
returns c =
    joined_last (λ k. flat_map cell_text (three k)) (vec_items c.args.out.now) c.args.constraints.now c.loop-constraint.constraint-index
    c.loop-constraint-test.false c.loop-constraint.invariant
