use Rattle.std.proofs.Common.{◌+◌, map, drop, vec_items, sym, ap, ◌∙◌, subst}
use Rattle.std.proofs.lemmas.List.{map-append, take_rest}
use Rattle.sheets.proofs.Splits.{Splitting, broken, last}
use Rattle.sheets.proofs.split.split_lines.Goals as goal

pub loop-end-preserved : goal.loop-end-preserved
loop-end-preserved c =
    let input = c.args.input.now in
    let rest = c.loop-end.rest.now in
    let i = c.in-Some.end in
    let ended = map (λ x. x.now) (vec_items c.loop-end.ended) in
    subst (Splitting input (map (λ x. x.now) (vec_items c.push.new.self))) (sym (take_rest rest (i + 1)))
    (subst (λ l. Splitting input l (drop (i + 1) rest)) (sym (ap (map (λ x. x.now)) c.in_ok-push.ensures.items ∙ map-append (λ x. x.now) (vec_items c.loop-end.ended) _))
    (broken input ended rest c.loop-end.invariant i (sym c.newline_in.ensures ∙ c.in-Some.is)))

pub returns : goal.returns
returns c = last c.args.input.now (map (λ x. x.now) (vec_items c.loop-end.ended)) c.loop-end.rest.now c.loop-end.invariant (sym c.newline_in.ensures ∙ c.in_default.is)
