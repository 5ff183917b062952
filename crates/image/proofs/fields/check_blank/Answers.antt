use Rattle.std.proofs.Common.{◌≡◌, ◌∙◌, drop, None, Some, rules, tests, arith}
use Rattle.std.proofs.lemmas.Iterator.{YieldsList-from_slice, IsFirst-from_position}
use Rattle.std.proofs.lemmas.List.{take_rest}
use Rattle.columns.specs.Columns.{blank}
use Rattle.image.proofs.Arrays.{first_marked}
use Rattle.image.proofs.fields.check_blank.Goals as goal

pub returns-in-Some : goal.returns-in-Some
returns-in-Some c =
    let fields = c.as_chunks.result.0.now in
    let from = c.args.from in
    first_marked c.args.line.now fields c.as_chunks.ensures.front from c.requires (omega arith) c.as_chunks.ensures.front_len (Some c.in-Some.after)
    (IsFirst-from_position _ _ (Some c.in-Some.after) (λ f. f ≡ blank 10 → ⊥) (λ f. f ≡ blank 10) c.in-Some.ensures.ran (YieldsList-from_slice (drop from fields) (c.iter.ensures.rest ∙ take_rest fields from)) (λ x q k. search (rules, tests)) (λ x q k. search (rules, tests)))

pub returns-in-None : goal.returns-in-None
returns-in-None c =
    let fields = c.as_chunks.result.0.now in
    let from = c.args.from in
    first_marked c.args.line.now fields c.as_chunks.ensures.front from c.requires (omega arith) c.as_chunks.ensures.front_len None
    (IsFirst-from_position _ _ None (λ f. f ≡ blank 10 → ⊥) (λ f. f ≡ blank 10) c.in-None.ensures.ran (YieldsList-from_slice (drop from fields) (c.iter.ensures.rest ∙ take_rest fields from)) (λ x q k. search (rules, tests)) (λ x q k. search (rules, tests)))
