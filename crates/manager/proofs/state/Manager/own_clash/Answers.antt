use Rattle.std.proofs.Common.{List, subst, MatchOption}
use Rattle.maps.specs.Maps.{In}
use Rattle.terms.specs.Fitting.{described}
use Rattle.ledger.specs.declared.entry.Reservation.{Reservation}
use Rattle.ledger.specs.Words.{right_of}
use Rattle.ledger.specs.Clashes.{Clashing, FirstClash, request}
use Rattle.manager.proofs.state.Manager.own_clash.Goals as goal

pub returns : goal.returns
returns g c =
    let s = c.args.self.now in
    record {
      answer = subst (λ (l : List Reservation). MatchOption c.first_clash.result ((h : Reservation) → In h l → ¬ Clashing s.signature.arities (g.K.Kind.means s.kind) (request c.args.transaction (right_of c.args.right) (described c.args.pattern.now)) h) (FirstClash s.signature.arities (g.K.Kind.means s.kind) (request c.args.transaction (right_of c.args.right) (described c.args.pattern.now)) l)) c.entries.ensures c.first_clash.ensures.answer;
      blank = c.first_clash.ensures.blank;
    }
