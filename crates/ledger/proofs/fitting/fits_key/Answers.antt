use Rattle.std.proofs.Common.{false, refl, subst}
use Rattle.std.proofs.lemmas.Bool.{both_ways}
use Rattle.refusals.proofs.Places.{first_improper}
use Rattle.terms.specs.Fitting.{Fits, described}
use Rattle.terms.specs.Proper.{RowCells}
use Rattle.ledger.proofs.Rows.{fits_row}
use Rattle.ledger.proofs.fitting.fits_key.Goals as goal

pub returns-in-Err : goal.returns-in-Err
returns-in-Err g c =
    let sig = c.args.signature.now.arities in
    let M = g.K.Kind.means c.args.kind.now in
    let f = c.in-Err.ensures in
    let e = c.cells.ensures.value in
    let s = c.cells.ensures.storable in
    let row = c.cells.result.now in
    let p = described c.args.pattern.now in
    record {
      answer = (
        (λ z. absurd (both_ways false refl z)),
        λ x. absurd (first_improper (RowCells sig M) row f.place f.first (fits_row sig M p row c.requires.pattern s.few (subst (λ l. Fits sig M l p) (mathlib.Core.Path.sym e) x))),
      );
      blank = c.requires.blank;
    }
