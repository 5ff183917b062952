use Rattle.std.proofs.Common.{◌-◌, ap, ◌∙◌, arith}
use Rattle.std.proofs.lemmas.List.{length-set}
use Rattle.columns.specs.Columns.{columns}
use Rattle.columns.proofs.Writing.{write_first, write_next, done_last}
use Rattle.columns.proofs.number.write_number.Goals as goal

pub loop-i-init : goal.loop-i-init
loop-i-init c =
    let w = c.width_of.ensures in
    write_first c.args.part.now c.args.n _ (omega arith) (omega arith) (omega arith)

pub loop-i-preserved : goal.loop-i-preserved
loop-i-preserved c =
    let i = c.loop-i.i in
    write_next c.loop-i.part c.args.n i (i - 1) c.loop-i.rest c.mark_of.result (omega arith) c.mark_of.ensures c.loop-i.invariant

pub returns : goal.returns
unfolding columns
returns c =
    let w = c.width_of.ensures in (
      done_last c.loop-i.part c.args.n c.loop-i.i c.loop-i.rest (omega arith) c.loop-i.invariant
          ∙ ap (λ m. columns m c.args.n) (c.loop-i.auto.part ∙ length-set c.args.part.now _ _),
      omega arith,
    )
