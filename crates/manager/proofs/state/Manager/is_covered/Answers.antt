use Rattle.std.proofs.Common.{Bool, true, false, List, Decides, MatchBool, subst}
use Rattle.terms.specs.Fitting.{cells_of}
use Rattle.ledger.specs.declared.entry.Reservation.{Reservation}
use Rattle.ledger.specs.Covering.{Covered}
use Rattle.manager.proofs.state.Manager.is_covered.Goals as goal

by-when : (b : Bool) (P : Type 0) → Decides b P → MatchBool b P (P → ⊥)
by-when true P d = d.0 mathlib.Core.Path.refl
by-when false P d = λ p. Rattle.std.proofs.lemmas.Bool.both_ways false mathlib.Core.Path.refl (d.1 p)

pub returns : goal.returns
returns g c =
    let s = c.args.self.now in
    record {
      answer = subst (λ (l : List Reservation). MatchBool c.covered.result (Covered s.signature.arities (g.K.Kind.means s.kind) c.args.transaction (cells_of c.args.row.now) c.args.changing l) (Covered s.signature.arities (g.K.Kind.means s.kind) c.args.transaction (cells_of c.args.row.now) c.args.changing l → ⊥)) c.entries.ensures
          (by-when c.covered.result _ c.covered.ensures.answer);
      blank = c.covered.ensures.blank;
    }
