use Rattle.std.proofs.Common.{◌≡◌, get_or, sym, ap, ◌∙◌, arith}
use Rattle.std.proofs.lemmas.Bool.Decides.{Decides-eqb, Decides-like}
use Rattle.std.proofs.lemmas.Grind.{common_steps}
use Rattle.std.proofs.lemmas.Slice.Eq.{slice_eq-Decides}
use Rattle.requests.specs.Lines.{trim}
use Rattle.requests.proofs.Alike.{trim_alike, trim_same}
use Rattle.requests.proofs.lines.alike.Goals as goal

-- by whatever steps, each side is its line without the blanks at its end
pub returns : goal.returns
returns c =
    let x = c.args.x.now in
    let y = c.args.y.now in
    let a : c.trimmed.result.now ≡ trim x = c.trimmed.ensures ∙ ap trim (grind (arith, common_steps)) in
    let b : c.trimmed-2.result.now ≡ trim y = c.trimmed-2.ensures ∙ ap trim (grind (arith, common_steps)) in
    Decides-like _
    (λ e i. sym (trim_alike x i) ∙ ap (λ t. get_or t i 32) (sym a ∙ e ∙ b) ∙ trim_alike y i)
    (λ s. a ∙ trim_same x y s ∙ sym b)
    (slice_eq-Decides Decides-eqb _ _ _ c.eq.ensures)
