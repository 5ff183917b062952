use Rattle.std.proofs.Common.{map, take, vec_items, ap, ◌∙◌, subst, ap₂}
use Rattle.std.specs.Option.{option_map}
use Rattle.std.proofs.lemmas.List.{take_min}
use Rattle.runs.specs.Runs.{present}
use Rattle.requests.specs.Layout.{asked_of}
use Rattle.sheets.specs.Answers.{answer_lines}
use Rattle.sheets.specs.Sheets.{Asks, RanAll}
use Rattle.sheets.proofs.answering.answer_sheet.Goals as goal

pub returns-clause-answered : goal.returns-clause-answered
returns-clause-answered g c =
    let asks = map (option_map asked_of) (vec_items c.in_ok-lines.lines) in
    let done = c.in_ok-done.done in
    let M = g.K.Kind.means c.args.kind in
    let places = g.S.Store.places c.args.store.now in
    let first = g.S.Store.means c.args.store.now in
    let last = g.S.Store.means c.run_calls.new.store in
    let ran = c.in_ok-done.ensures.ran in (
      ran.0,
      record {
        asks = asks;
        calls = vec_items c.in_ok-calls.calls;
        answers = vec_items done.answers;
        samples = vec_items done.samples;
        read = subst (λ z. Asks z asks) (ap (λ n. take n c.args.input.now) c.min.ensures ∙ take_min 65536 c.args.input.now) c.in_ok-lines.ensures;
        called = c.in_ok-calls.ensures ∙ ap (λ l. present (map (option_map asked_of) l)) c.as_slice.ensures.value;
        ran = subst (λ cs. RanAll c.args.arities M places cs (vec_items done.answers) (vec_items done.samples) first last) c.as_slice-2.ensures.value ran.1;
        written = c.in_ok-out.ensures
            ∙ ap (λ l. answer_lines (map (option_map asked_of) l) c.as_slice-4.result.now c.as_slice-5.result.now) c.as_slice-3.ensures.value
            ∙ ap₂ (answer_lines asks) c.as_slice-4.ensures.value c.as_slice-5.ensures.value;
      },
    )
