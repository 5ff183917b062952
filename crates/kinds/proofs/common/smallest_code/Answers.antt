use Rattle.std.proofs.Common.{⊎_elim, arith}
use Rattle.std.proofs.lemmas.Bool.{cases_lt}
use Rattle.kinds.proofs.Leaps.{round_none, round_over, round_low}
use Rattle.kinds.proofs.common.smallest_code.Goals as goal

pub returns-in_err-low : goal.returns-in_err-low
returns-in_err-low g c =
    rw c.from_residual-in_err-low.ensures
    (λ k _ m. ⊎_elim (λ b. c.rise.invariant k b m)
    (λ b. round_none (g.K.Kind.means c.args.kind.now) c.args.first c.args.rest.now c.rise.v c.in_ok-start.start
    c.in_ok-start.ensures c.in_err-low.ensures k b m)
    (cases_lt k c.rise.v))

pub rise-smaller : goal.rise-smaller
rise-smaller g c =
    omega (
      arith,
      c.in_ok-start.ensures.0,
      c.in_ok-low.ensures.0,
      c.if-low-v.false,
      round_low (g.K.Kind.means c.args.kind.now) c.args.first c.args.rest.now c.rise.v c.in_ok-start.start
          c.in_ok-start.ensures c.in_ok-low.low c.in_ok-low.ensures (g.met.K.Kind.sound c.args.kind.now),
    )

pub rise-preserved : goal.rise-preserved
rise-preserved g c = λ k u m.
    ⊎_elim (λ b. c.rise.invariant k b m)
    (λ b. round_over (g.K.Kind.means c.args.kind.now) c.args.first c.args.rest.now c.rise.v c.in_ok-start.start
    c.in_ok-start.ensures c.in_ok-low.low c.in_ok-low.ensures k b u m)
    (cases_lt k c.rise.v)
