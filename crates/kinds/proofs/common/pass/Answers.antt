use Rattle.std.proofs.Common.{rules}
use Rattle.std.proofs.lemmas.Iterator.{YieldsList-from_slice}
use Rattle.kinds.proofs.Leaps.{passed_by_fold}
use Rattle.kinds.proofs.common.pass.Goals as goal

pub returns : goal.returns
returns g c =
    passed_by_fold (g.K.Kind.means c.args.kind.now) (g.met.K.Kind.sound c.args.kind.now) _ _ _ _ c.args.conditions.now c.args.v c.try_fold.result
    c.try_fold.ensures.ran (YieldsList-from_slice c.args.conditions.now (cc)) (λ a x r h k. search rules)
