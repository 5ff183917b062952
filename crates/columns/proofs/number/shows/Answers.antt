use Rattle.std.proofs.Common.{◌-◌, sym, refl, ◌∙◌, arith}
use Rattle.std.proofs.lemmas.Bool.{false≢true}
use Rattle.columns.proofs.Numbers.{columns_fits}
use Rattle.columns.proofs.Writing.{done_first, done_next, done_last, shown_last, shown_next}
use Rattle.columns.proofs.number.shows.Goals as goal

pub returns-then-part-width_of : goal.returns-then-part-width_of
returns-then-part-width_of c =
    let w = c.width_of.ensures in
    (λ e. absurd (false≢true e), λ s. absurd (let f = columns_fits c.args.part.now c.args.n s in omega arith))

pub returns-then-part-i : goal.returns-then-part-i
returns-then-part-i c =
    let w = c.width_of.ensures in
    (λ e. absurd (false≢true e), λ s. absurd (c.if-part-i.true (shown_last c.args.part.now c.args.n _ (omega arith) (omega arith) (omega arith) s)))

pub loop-i-init : goal.loop-i-init
loop-i-init c =
    let w = c.width_of.ensures in
    done_first c.args.part.now c.args.n (omega arith) (omega arith) _ (omega arith) c.if-part-i.false

pub returns-then-part-i-2 : goal.returns-then-part-i-2
returns-then-part-i-2 c =
    let i = c.loop-i.i in (
      λ e. absurd (false≢true e),
      λ s. absurd (c.if-part-i-2.true (shown_next c.args.part.now c.args.n i (i - 1) c.loop-i.rest (omega arith) c.loop-i.invariant s ∙ sym c.mark_of.ensures)),
    )

pub loop-i-preserved : goal.loop-i-preserved
loop-i-preserved c =
    let i = c.loop-i.i in
    done_next c.args.part.now c.args.n i (i - 1) c.loop-i.rest (omega arith) (c.if-part-i-2.false ∙ c.mark_of.ensures) c.loop-i.invariant

pub returns : goal.returns
returns c =
    (λ _. done_last c.args.part.now c.args.n c.loop-i.i c.loop-i.rest (omega arith) c.loop-i.invariant, λ _. refl)
