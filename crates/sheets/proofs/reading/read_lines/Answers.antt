use Rattle.std.proofs.Common.{◌≡◌, ℕ, ◌<◌, ◌≤◌, List, [], ◌∷◌, ◌++◌, map, length, None, vec_items, sym, refl, ap, ◌∙◌, subst, append-nil, arith, true-eqb, false-eqb}
use Rattle.std.specs.Option.{option_map}
use Rattle.std.proofs.lemmas.Grind.{common_steps}
use Rattle.std.proofs.lemmas.List.{map-append}
use Rattle.requests.specs.Layout.{asked_of}
use Rattle.sheets.specs.Sheets.{ReadEach, unended}
use Rattle.sheets.proofs.reading.read_lines.Goals as goal
use Rattle.sheets.proofs.reading.read_lines.Goals.{then-not-is_empty+in_ok-push, else-not-is_empty}

some : (rest : List ℕ) → 0 < length rest → unended rest ≡ None ∷ []
some [] l = absurd (omega arith)
some (b ∷ rest) l = refl

none : (rest : List ℕ) → length rest ≤ 0 → unended rest ≡ []
none [] l = refl
none (b ∷ rest) l = absurd (omega arith)

pub returns : goal.returns
returns c =
    let split = c.in_ok-split.split in
    let rest = split.rest.now in
    let asked = map (option_map asked_of) (vec_items c.in_ok-lines.lines) in
    let read = subst (λ l. ReadEach (map (λ x. x.now) l) asked) c.as_slice.ensures.value c.in_ok-lines.ensures in
    elim c.if-not-is_empty.branch [
      | then-not-is_empty+in_ok-push w ↦ record {
        ended = map (λ x. x.now) (vec_items split.ended);
        rest = rest;
        lines = c.in_ok-split.ensures;
        asked = asked;
        read = read;
        all = ap (λ v. map (option_map asked_of) (vec_items v)) w.lines-is
            ∙ ap (map (option_map asked_of)) w.in_ok-push.ensures.items
            ∙ map-append (option_map asked_of) (vec_items c.in_ok-lines.lines) (None ∷ [])
            ∙ ap (λ k. asked ++ k) (sym (some rest (grind (arith, common_steps, false-eqb _ _ (sym w.if-not-is_empty.true ∙ c.is_empty.ensures)))));
      }
      | else-not-is_empty w ↦ record {
        ended = map (λ x. x.now) (vec_items split.ended);
        rest = rest;
        lines = c.in_ok-split.ensures;
        asked = asked;
        read = read;
        all = ap (λ v. map (option_map asked_of) (vec_items v)) w.lines-is ∙ sym (append-nil asked) ∙ ap (λ k. asked ++ k) (sym (none rest (grind (arith, common_steps, true-eqb _ _ (sym w.if-not-is_empty.false ∙ c.is_empty.ensures)))));
      }
    ]
