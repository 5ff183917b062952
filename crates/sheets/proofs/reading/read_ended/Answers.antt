use Rattle.std.proofs.Common.{map, vec_items, subst, arith}
use Rattle.std.specs.Option.{option_map}
use Rattle.std.proofs.lemmas.List.{take_all}
use Rattle.requests.specs.Layout.{asked_of}
use Rattle.sheets.specs.Sheets.{ReadEach}
use Rattle.sheets.proofs.Readings.{read_more}
use Rattle.sheets.proofs.reading.read_ended.Goals as goal

pub loop-line-preserved : goal.loop-line-preserved
loop-line-preserved c =
    let r = c.in_ok-read_request.ensures in
    read_more (λ x. x.now) (option_map asked_of) c.args.ended.now c.loop-line.line-index _ (vec_items c.loop-line.lines) (vec_items c.push.new.self) c.in_ok-read_request.field-0 (omega arith) c.in_ok-push.ensures.items c.loop-line.invariant r

pub returns : goal.returns
returns c = subst (λ ls. ReadEach (map (λ x. x.now) ls) (map (option_map asked_of) (vec_items c.loop-line.lines))) (take_all c.loop-line.line-index c.args.ended.now (omega arith)) c.loop-line.invariant
