use Rattle.std.proofs.Common.{◌∷◌, zero-le}
use Rattle.kinds.proofs.Leaps.{meets_letter, meets_holds, smallest_value}
use Rattle.kinds.proofs.common.smallest_value.Goals as goal

pub returns-in_err-letter : goal.returns-in_err-letter
returns-in_err-letter g c =
    rw c.from_residual.ensures
    (λ l k m. c.in_err-letter.ensures l (meets_letter (g.K.Kind.means c.args.kind.now) l k (c.args.first ∷ c.args.rest.now) m))

pub returns-in_err-code : goal.returns-in_err-code
returns-in_err-code g c =
    rw c.from_residual-in_err-code.ensures
    (λ l k m. c.in_err-code.ensures k zero-le (meets_holds (g.K.Kind.means c.args.kind.now) l k (c.args.first ∷ c.args.rest.now) m))

pub returns : goal.returns
returns g c =
    smallest_value (g.K.Kind.means c.args.kind.now) c.args.first c.args.rest.now c.in_ok-letter.letter c.in_ok-code.code
    c.in_ok-letter.ensures c.in_ok-code.ensures
