use Rattle.std.proofs.Common.{false, sym, refl, subst}
use Rattle.std.proofs.lemmas.Bool.{both_ways}
use Rattle.maps.specs.Maps.{In}
use Rattle.terms.specs.Fitting.{cells_of}
use Rattle.rolls.proofs.Entries.{at_in, none_more, none_all}
use Rattle.ledger.specs.Covering.{Covers}
use Rattle.ledger.proofs.fitting.covered.Goals as goal

pub covers-requires : goal.covers-requires
covers-requires g c =
    let x = c.held-item.result in
    let hs = c.args.reservations.now in
    record {
      held = c.requires.held x (subst (λ y. In y hs) (sym c.held-item.is) (at_in hs c.loop-held.held-index x c.loop-held-test.true));
      row = c.requires.row;
      blank = c.loop-held.invariant.0;
    }

pub returns-then-covers : goal.returns-then-covers
returns-then-covers g c =
    let x = c.held-item.result in
    let hs = c.args.reservations.now in
    record {
      answer = (
        (λ _. (x, subst (λ y. In y hs) (sym c.held-item.is) (at_in hs c.loop-held.held-index x c.loop-held-test.true), c.if-covers.ensures.answer.0 refl)),
        λ _. refl,
      );
      blank = c.covers.ensures.blank;
    }

pub loop-held-preserved : goal.loop-held-preserved
loop-held-preserved g c = (
  c.covers.ensures.blank,
  none_more (Covers c.args.signature.now.arities (g.K.Kind.means c.args.kind.now) c.args.transaction (cells_of c.args.row.now) c.args.changing)
      c.args.reservations.now c.loop-held.held-index c.held-item.result c.loop-held-test.true c.held-item.is c.loop-held.invariant.1
      (λ p. both_ways false refl (c.if-covers.ensures.answer.1 p)),
)

pub returns : goal.returns
returns g c =
    let none = none_all (Covers c.args.signature.now.arities (g.K.Kind.means c.args.kind.now) c.args.transaction (cells_of c.args.row.now) c.args.changing)
    c.args.reservations.now c.loop-held.held-index c.loop-held-test.false c.loop-held.invariant.1 in
    record { answer = ((λ e. absurd (both_ways false refl e)), λ h. absurd (none h.0 h.1 h.2)); blank = c.loop-held.invariant.0 }
