use Rattle.std.proofs.Common.{◌≡◌, ◌+◌, sym, refl, ◌∙◌, subst, inl, arith, rules, tests}
use Rattle.std.proofs.lemmas.Bool.{both_ways}
use Rattle.std.proofs.lemmas.Result.{err_from_is_err_and}
use Rattle.terms.specs.Proper.{RowCells}
use Rattle.terms.proofs.Storing.{row_storable}
use Rattle.stores.specs.declared.fault.StoreFault.TheVariants.{Line}
use Rattle.image.specs.Texts.{Decoded}
use Rattle.image.proofs.Cutting.{bad_within}
use Rattle.image.proofs.Opening.{mapped_ok, mapped_err, decoded, line_good, line_again}
use Rattle.image.proofs.open.check_line.Goals as goal
use Rattle.image.proofs.open.check_line.Goals.{else-is_some-via-then-is_some+else-is_some-2, else-is_some-via-else-is_some}

pub map_err-requires : goal.map_err-requires
map_err-requires g c m is κs s x y z =
    let R = RowCells c.args.signature.now.arities (g.K.Kind.means c.args.kind.now) in
    let b = bad_within R _ m.field (subst (Decoded R _) is c.decode.ensures) in omega arith

pub returns-in_err-shown : goal.returns-in_err-shown
returns-in_err-shown g c =
    let sig = c.args.signature.now.arities in
    let M = g.K.Kind.means c.args.kind.now in
    let q = mapped_err c.map_err.result _ c.decode.result c.map_err.ensures.cases c.in_err-shown.field-0.0 c.in_err-shown.was in
    let p = err_from_is_err_and c.from_residual.result c.from_residual.ensures.1 in
    let f : c.in_err-shown.field-0.0 ≡ Line c.args.k (q.0.field + 1) = search (rules, tests) in
    rw (p.1, p.2, f)
    (inl (q.0.field, refl, decoded (RowCells sig M) (row_storable M (g.met.K.Kind.sound c.args.kind.now) sig) c.args.image.now c.args.k c.requires.before c.lines_of-lines.result.now c.lines_of-lines.ensures.lines c.requires.within _ _ q.1 c.decode.ensures))

pub returns-then-is_some-2 : goal.returns-then-is_some-2
returns-then-is_some-2 g c =
    let sig = c.args.signature.now.arities in
    let M = g.K.Kind.means c.args.kind.now in
    line_again (RowCells sig M) (row_storable M (g.met.K.Kind.sound c.args.kind.now) sig) c.args.image.now c.args.k c.requires.before c.lines_of-lines.result.now c.lines_of-lines.ensures.lines c.requires.within
    c.decode.result c.decode.ensures c.in_ok-shown.shown (mapped_ok c.map_err.result _ c.decode.result c.map_err.ensures.cases c.in_ok-shown.shown c.in_ok-shown.was) (sym c.is_some.ensures ∙ c.if-is_some.true)
    c.place_of.result c.place_of.ensures (sym c.is_some-then-is_some.ensures ∙ c.if-is_some-2.true)

pub returns : goal.returns
returns g c =
    let sig = c.args.signature.now.arities in
    let M = g.K.Kind.means c.args.kind.now in
    line_good (RowCells sig M) (row_storable M (g.met.K.Kind.sound c.args.kind.now) sig) c.args.image.now c.args.k c.requires.before c.lines_of-lines.result.now c.lines_of-lines.ensures.lines c.requires.within
    c.decode.result c.decode.ensures c.in_ok-shown.shown (mapped_ok c.map_err.result _ c.decode.result c.map_err.ensures.cases c.in_ok-shown.shown c.in_ok-shown.was)
    (λ t. elim c.else-is_some.branch [
      | else-is_some-via-then-is_some+else-is_some-2 w ↦ (w.place_of.result, w.place_of.ensures, sym w.is_some-then-is_some.ensures ∙ w.if-is_some-2.false)
      | else-is_some-via-else-is_some w ↦ absurd (both_ways c.is_some.result w.if-is_some.false (c.is_some.ensures ∙ t))
    ])
