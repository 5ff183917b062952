use Rattle.std.proofs.Common.{sym, subst}
use Rattle.maps.specs.Maps.{Figures}
use Rattle.terms.specs.declared.pattern.Pattern.{Pattern}
use Rattle.terms.specs.Fitting.{Fits, described}
use Rattle.ledger.specs.Counting.{Owns}
use Rattle.manager.specs.Book.{book_of}
use Rattle.manager.specs.Ending.{own_map}
use Rattle.manager.proofs.state.Manager.survey.Goals as goal

pub returns : goal.returns
returns g c =
    let m = c.args.self.now in
    let o = subst (Owns c.args.transaction c.args.reservation (book_of m c.args.memory.now).reservations) c.in_ok-pattern.ensures.ok_part c.own_pattern.ensures in
    record {
      answers = (
        (c.in_ok-check_sizes.ensures, (c.in_ok-check_open.ensures, ((o.0, o.1, o.2), tt))),
        (
          o.0,
          o.1,
          o.2,
          subst (λ (p : Pattern). Figures (λ q. Fits m.signature.arities (g.K.Kind.means m.kind) q (described p)) (own_map c.args.transaction (book_of m c.args.memory.now) (g.S.Store.means c.args.store.now)) c.figures.result.0 c.figures.result.1) (sym o.3) c.figures.ensures.figures,
        ),
      );
      blank = c.figures.ensures.blank;
    }
