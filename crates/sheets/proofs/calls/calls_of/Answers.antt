use Rattle.std.proofs.Common.{[], ◌∷◌, ◌++◌, map, take, vec_items, sym, ap, ◌∙◌, ap₂, append-nil, arith}
use Rattle.std.specs.Option.{option_map}
use Rattle.std.proofs.lemmas.List.{map-append, take_all}
use Rattle.runs.specs.Calls.{asked_by}
use Rattle.runs.specs.Runs.{present}
use Rattle.requests.specs.Layout.{asked_of}
use Rattle.sheets.proofs.Presents.{present_some, present_none}
use Rattle.sheets.proofs.calls.calls_of.Goals as goal
use Rattle.sheets.proofs.calls.calls_of.Goals.{in-Some+in_ok-push, in_default}

pub loop-line-preserved : goal.loop-line-preserved
loop-line-preserved c =
    let lines = c.args.lines.now in
    let i = c.loop-line.line-index in
    let d = c.line-item.result in
    elim c.match-line.branch [
      | in-Some+in_ok-push w ↦
          ap (λ v. map asked_by (vec_items v)) w.calls-is
          ∙ ap (map asked_by) w.in_ok-push.ensures.items
          ∙ map-append asked_by (vec_items c.loop-line.calls) (w.call_of.result ∷ [])
          ∙ ap₂ (λ x y. x ++ (y ∷ [])) c.loop-line.invariant w.call_of.ensures
          ∙ sym (present_some asked_of lines i d (omega arith) w.in-Some.request (sym c.line-item.is ∙ w.in-Some.is))
      | in_default w ↦
          ap (λ v. map asked_by (vec_items v)) w.calls-is
          ∙ c.loop-line.invariant
          ∙ sym (present_none asked_of lines i d (omega arith) (sym c.line-item.is ∙ w.in_default.is) ∙ append-nil (present (map (option_map asked_of) (take i lines))))
    ]

pub returns : goal.returns
returns c = c.loop-line.invariant ∙ ap (λ l. present (map (option_map asked_of) l)) (take_all c.loop-line.line-index c.args.lines.now (omega arith))
