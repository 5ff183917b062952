use Rattle.std.proofs.Common.{vec_items}
use Rattle.requests.specs.Answers.{group_text}
use Rattle.requests.proofs.Pushes.{joined_next, joined_last}
use Rattle.requests.proofs.answer.push_groups.Goals as goal

pub loop-cell-preserved : goal.loop-cell-preserved
loop-cell-preserved c =
    joined_next group_text (vec_items c.args.out.now) c.args.cells.now c.loop-cell.cell-index _ c.loop-cell-test.true c.loop-cell.invariant c.in_ok-push_group.ensures

pub returns : goal.returns
returns c = joined_last group_text (vec_items c.args.out.now) c.args.cells.now c.loop-cell.cell-index c.loop-cell-test.false c.loop-cell.invariant
