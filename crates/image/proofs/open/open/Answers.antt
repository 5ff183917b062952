use Rattle.image.proofs.Opening.{accepted}
use Rattle.image.proofs.open.open.Goals as goal

pub returns : goal.returns
returns g c =
    let s = c.in_ok-signature.ensures in
    accepted c.in_ok-signature.signature.arities c.args.arities.now (g.K.Kind.means c.args.kind.now) (g.met.K.Kind.sound c.args.kind.now) c.args.image.now
    s.0 s.1 c.in_ok-check_size.ensures c.in_ok-check_lines.ensures
