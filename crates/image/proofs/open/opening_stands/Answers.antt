use Rattle.terms.specs.Proper.{RowCells}
use Rattle.terms.proofs.Storing.{row_storable}
use Rattle.image.proofs.Exact.{exactly}
use Rattle.image.proofs.open.opening_stands.Goals as goal

pub returns : goal.returns
returns g c =
    let M = g.K.Kind.means c.args.kind.now in
    let sig = c.args.signature.now.arities in
    exactly (RowCells sig M) (row_storable M (g.met.K.Kind.sound c.args.kind.now) sig)
