use Rattle.std.proofs.Common.{Bool, Decides, sym, subst, MatchOption}
use Rattle.terms.specs.Fitting.{Description, described, cells_of, Fits}
use Rattle.unification.specs.Pairs.{Overlap}
use Rattle.compare.specs.Answers.{CommonPart}
use Rattle.compare.proofs.Alone.{fits_told}
use Rattle.compare.proofs.overlap.fits.Goals as goal

pub returns : goal.returns
returns g c =
    let sig = c.args.signature.now.arities in
    let M = g.K.Kind.means c.args.kind.now in
    let row = cells_of c.args.row.now in
    let p = described c.args.pattern.now in
    let told = subst (λ (d : Description). MatchOption c.overlap.result (Overlap sig M d p → ⊥) (λ a. CommonPart sig M d p a)) c.from-alone.ensures c.overlap.ensures.answer in
    record {
      answer = subst (λ (b : Bool). Decides b (Fits sig M row p)) (sym c.is_some.ensures)
          (fits_told sig M row p c.args.signature.now.nought c.requires.row c.overlap.result told);
      blank = c.overlap.ensures.blank;
    }
