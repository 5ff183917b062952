use Rattle.std.proofs.Common.{sym, subst}
use Rattle.maps.specs.Maps.{In}
use Rattle.terms.specs.Fitting.{described}
use Rattle.rolls.proofs.Entries.{at_in, none_more, none_all}
use Rattle.ledger.specs.Words.{right_of}
use Rattle.ledger.specs.Clashes.{Clashing, request}
use Rattle.ledger.proofs.clash.first_clash.Goals as goal

pub clash_with-requires : goal.clash_with-requires
clash_with-requires g c =
    let x = c.index-reservations-index.result in
    let hs = c.args.reservations.now in
    record {
      held = c.requires.held x (subst (λ y. In y hs) (sym c.index-reservations-index.is) (at_in hs c.loop-index.index x c.loop-index-test.true));
      pattern = c.requires.pattern;
      blank = c.loop-index.invariant.0;
    }

pub loop-index-preserved : goal.loop-index-preserved
loop-index-preserved g c = (
  c.clash_with.ensures.blank,
  none_more (Clashing c.args.signature.now.arities (g.K.Kind.means c.args.kind.now) (request c.args.transaction (right_of c.args.right) (described c.args.pattern.now)))
      c.args.reservations.now c.loop-index.index c.index-reservations-index.result c.loop-index-test.true c.index-reservations-index.is c.loop-index.invariant.1 c.in_default.ensures.answer,
)

pub returns : goal.returns
returns g c = record {
  answer = none_all (Clashing c.args.signature.now.arities (g.K.Kind.means c.args.kind.now) (request c.args.transaction (right_of c.args.right) (described c.args.pattern.now)))
      c.args.reservations.now c.loop-index.index c.loop-index-test.false c.loop-index.invariant.1;
  blank = c.loop-index.invariant.0;
}
