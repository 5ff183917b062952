-- The text of what is laid out has no newline.
use Rattle.std.proofs.Common.{◌≡◌, ℕ, zero, suc, ◌+◌, ◌-◌, ◌%◌, ◌^◌, ◌<◌, List, [], ◌∷◌, ◌++◌, length, Some, None, decimal, Option, arith}
use Rattle.std.specs.List.{flat_map, AllByRecursion}
use Rattle.std.proofs.lemmas.Fmt.{decimal_by_steps}
use Rattle.std.proofs.ByRecursion.{All-append, All-push}
use Rattle.serial.specs.History.{Call.begin, Call.reserve, Call.look, Call.survey, Call.write, Call.strike, Call.commit, Call.abandon}
use Rattle.terms.specs.declared.cell.Cell.{Cell}
use Rattle.terms.specs.declared.constraint.Constraint.{Constraint}
use Rattle.columns.specs.Columns.{blank, pad, columns, cell_text}
use Rattle.requests.specs.declared.word.Word.{Word}
use Rattle.requests.specs.declared.word.Word.TheVariants.{Begin, Reserve, Look, Survey, Write, Strike, Commit, Abandon, Tally}
use Rattle.requests.specs.Lines.{field}
use Rattle.requests.specs.Layout.{Ask, Fields, fields, shown, text, three, word_text, Laid, LaidCell, LaidConstraint}
use Rattle.requests.specs.Fields.{Room}

abbrev Plain : List ℕ → Type 0
Plain = AllByRecursion (λ b. b ≡ 10 → ⊥)

joint : (x y : List ℕ) → Plain x → Plain y → Plain (x ++ y)
joint x y p q = All-append (λ b. b ≡ 10 → ⊥) x y p q

plain_blank : (n : ℕ) → Plain (blank n)
plain_blank zero = tt
plain_blank (suc n) = (λ e. omega arith, plain_blank n)

plain_decimal : (n : ℕ) → n < 2 ^ 64 → Plain (decimal n)
plain_decimal n h =
    decimal_by_steps (λ m ds. Plain ds)
    (λ m k. (λ e. omega arith, tt))
    (λ m ds k p. All-push (λ b. b ≡ 10 → ⊥) ds (48 + m % 10) p (λ e. omega arith))
    n h

plain_columns : (w n : ℕ) → n < 2 ^ 64 → Plain (columns w n)
unfolding columns pad
plain_columns w n h = joint (blank (w - length (decimal n))) (decimal n) (plain_blank (w - length (decimal n))) (plain_decimal n h)

plain_field : (n : Option ℕ) → Room n → Plain (field 7 n)
plain_field None h = plain_blank 7
plain_field (Some n) h = plain_columns 7 n (omega arith)

plain_word : (w : Word) → Plain (word_text w)
unfolding word_text
plain_word Begin = search arith
plain_word Reserve = search arith
plain_word Look = search arith
plain_word Survey = search arith
plain_word Write = search arith
plain_word Strike = search arith
plain_word Commit = search arith
plain_word Abandon = search arith
plain_word Tally = search arith

plain_cell : (c : Cell) → (c.letter ≡ 10 → ⊥) → c.number < 10 ^ 9 → Plain (cell_text c)
unfolding cell_text
plain_cell c l h = (l, plain_columns 9 c.number (omega arith))

plain_cells : (cs : List Cell) → AllByRecursion LaidCell cs → Plain (flat_map cell_text cs)
plain_cells [] s = tt
plain_cells (c ∷ cs) s = joint (cell_text c) (flat_map cell_text cs) (plain_cell c s.0.0.1 s.0.1) (plain_cells cs s.1)

plain_constraint : (k : Constraint) → LaidConstraint k → (cs : List Cell) → Plain (flat_map cell_text cs) → Plain (flat_map cell_text (three k ++ cs))
plain_constraint k s cs p =
    let blank_letter : ◌≡◌ {A = ℕ} 32 10 → ⊥ = λ e. omega arith in
    let f : Cell = record { letter = k.condition.form; number = k.variable } in
    let a : Cell = record { letter = 32; number = k.condition.a } in
    let b : Cell = record { letter = 32; number = k.condition.b } in
    joint (cell_text f) _ (plain_cell f s.0.1 s.1)
    (joint (cell_text a) _ (plain_cell a blank_letter s.2)
    (joint (cell_text b) _ (plain_cell b blank_letter s.3) p))

plain_constraints : (ks : List Constraint) → AllByRecursion LaidConstraint ks → Plain (flat_map cell_text (flat_map three ks))
plain_constraints [] s = tt
plain_constraints (k ∷ ks) s = plain_constraint k s.0 (flat_map three ks) (plain_constraints ks s.1)

plain_groups : (cs : List Cell) (ks : List Constraint) → AllByRecursion LaidCell cs → AllByRecursion LaidConstraint ks → Plain (flat_map cell_text (cs ++ flat_map three ks))
plain_groups [] ks s t = plain_constraints ks t
plain_groups (c ∷ cs) ks s t =
    joint (cell_text c) (flat_map cell_text (cs ++ flat_map three ks)) (plain_cell c s.0.0.1 s.0.1) (plain_groups cs ks s.1 t)

plain_shown : (f : Fields) → Room f.first → Room f.second → (f.right ≡ 10 → ⊥) → Plain (flat_map cell_text f.groups) → Plain (shown f)
plain_shown f m n r g =
    joint (word_text f.word) _ (plain_word f.word)
    (joint (field 7 f.first) _ (plain_field f.first m)
    (joint (field 7 f.second) _ (plain_field f.second n) (r, g)))

pub one_line : (a : Ask) → Laid a → Plain (text a)
one_line None l = plain_shown (fields None) tt tt (λ e. omega arith) tt
one_line (Some (begin planner)) l = plain_shown (fields (Some (begin planner))) l tt (λ e. omega arith) tt
one_line (Some (reserve t right d)) l = plain_shown (fields (Some (reserve t right d))) l.0 tt l.1 (plain_groups d.cells d.constraints l.2 l.3)
one_line (Some (look t cells)) l = plain_shown (fields (Some (look t cells))) l.0 tt (λ e. omega arith) (plain_cells cells l.1)
one_line (Some (survey t n)) l = plain_shown (fields (Some (survey t n))) l.0 l.1 (λ e. omega arith) tt
one_line (Some (write t cells k)) l = plain_shown (fields (Some (write t cells k))) l.0 l.2 (λ e. omega arith) (plain_cells cells l.1)
one_line (Some (strike t cells)) l = plain_shown (fields (Some (strike t cells))) l.0 tt (λ e. omega arith) (plain_cells cells l.1)
one_line (Some (commit t)) l = plain_shown (fields (Some (commit t))) l tt (λ e. omega arith) tt
one_line (Some (abandon t)) l = plain_shown (fields (Some (abandon t))) l tt (λ e. omega arith) tt
