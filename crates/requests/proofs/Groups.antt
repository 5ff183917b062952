-- Groups of ten columns: they are read one by one, and what columns show is one list at most.
use Rattle.std.proofs.Common.{◌≡◌, ℕ, suc, Bool, true, false, ⊎_elim, min, ◌+◌, ◌/◌, ◌<◌, cond, eqb, ltb, Some, None, unwrap_or, map, List, [], ◌∷◌, ◌++◌, length, get_or, take, drop, sym, refl, ap, ◌∙◌, subst, arith}
use Rattle.std.specs.List.{flat_map, AllByRecursion, position, position_or_len}
use Rattle.std.specs.Simd.{first_chunks}
use Rattle.std.proofs.ByRecursion.{All-append}
use Rattle.std.proofs.lemmas.List.{append-nil, append_assoc, take_at, drop_at, drop_all, length-append, nil_from_length, get_or_past, get_or_append_left}
use Rattle.std.proofs.lemmas.Bool.{cases_eq, cases_lt, eq-eqb, ne_eqb, lt-ltb, le-ltb}
use Rattle.terms.specs.Fitting.{Description}
use Rattle.terms.specs.declared.cell.Cell.{Cell}
use Rattle.terms.specs.declared.constraint.Constraint.{Constraint}
use Rattle.columns.specs.Columns.{cell_text, Short}
use Rattle.columns.proofs.Cells.{cell_length, cell_same, cell_marked}
use Rattle.requests.specs.Lines.{Alike, front}
use Rattle.requests.specs.Layout.{three, groups_of, LaidCell, LaidConstraint}
use Rattle.requests.specs.Steps.{start, condition_of, conditions, split}
use Rattle.requests.proofs.Alike.{Marked, front_is, front_length, get_d_front, marked_none, drop_marked, first_columns, next_columns}

abbrev shown : List Cell → List ℕ
shown gs = flat_map cell_text gs

first_group : (line : List ℕ) (g : Cell) (gs : List Cell) → Short g → Alike line (shown (g ∷ gs)) → front 10 line ≡ cell_text g
first_group line g gs h e = first_columns 10 line (cell_text g) (shown gs) (cell_length g h) e

next_groups : (line : List ℕ) (g : Cell) (gs : List Cell) → Short g → Alike line (shown (g ∷ gs)) → Alike (drop 10 line) (shown gs)
next_groups line g gs h e = next_columns 10 line (cell_text g) (shown gs) (cell_length g h) e

-- no group is blank
some_group : (g : Cell) (gs : List Cell) → Short g → Alike [] (shown (g ∷ gs)) → ⊥
some_group g gs h e = cell_marked g h (sym (first_group [] g gs h e))

pub groups_same : (gs hs : List Cell) → AllByRecursion Short gs → AllByRecursion Short hs → Alike (shown gs) (shown hs) → gs ≡ hs
groups_same [] [] s t e = refl
groups_same [] (h ∷ hs) s t e = absurd (some_group h hs t.0 e)
groups_same (g ∷ gs) [] s t e = absurd (some_group g gs s.0 (λ i. sym (e i)))
groups_same (g ∷ gs) (h ∷ hs) s t e =
    let one : g ≡ h = cell_same g h s.0 t.0 (sym (first_group (shown (g ∷ gs)) g gs s.0 (λ i. refl)) ∙ first_group (shown (g ∷ gs)) h hs t.0 e) in
    let rest : Alike (shown gs) (shown hs) =
    λ i. sym (next_groups (shown (g ∷ gs)) g gs s.0 (λ k. refl) i) ∙ next_groups (shown (g ∷ gs)) h hs t.0 e i in
    let more = groups_same gs hs s.1 t.1 rest in
    cc

-- some groups were read, and the rest shows the others
pub record Left (from rest : List ℕ) (done : List Cell) : Type 0 where
  pub marked : Marked rest
  pub others : (gs : List Cell) → AllByRecursion Short gs → Alike from (shown gs) → (more : List Cell) × AllByRecursion Short more × Alike rest (shown more) × (gs ≡ done ++ more)

pub left_first : (from rest : List ℕ) → Marked rest → Alike rest from → Left from rest []
left_first from rest m e = record { marked = m; others = λ gs s a. (gs, s, λ i. e i ∙ a i, refl) }

pub left_next : (from rest rest' : List ℕ) (done : List Cell) (g : Cell) → 0 < length rest → rest' ≡ drop 10 rest → ((c : Cell) → Short c → front 10 rest ≡ cell_text c → g ≡ c)
    → Left from rest done → Left from rest' (done ++ (g ∷ []))
left_next from rest rest' done g some d reads w = record {
  marked = subst Marked (sym d) (drop_marked 10 rest w.marked);
  others = λ gs s a. let o = w.others gs s a in go gs o.0 o.1 o.2 o.3;
}
  where
    go : (gs more : List Cell) → AllByRecursion Short more → Alike rest (shown more) → gs ≡ done ++ more → (others : List Cell) × AllByRecursion Short others × Alike rest' (shown others) × (gs ≡ (done ++ (g ∷ [])) ++ others)
    go gs [] s a e = let z = ap length (marked_none rest w.marked a) in absurd (omega arith)
    go gs (h ∷ more) s a e =
        let same : g ≡ h = reads h s.0 (first_group rest h more s.0 a) in (
          more,
          s.1,
          λ i. ap (λ t. get_or t i 32) d ∙ next_groups rest h more s.0 a i,
          e ∙ ap (λ k. done ++ (k ∷ more)) (sym same) ∙ sym (append_assoc done (g ∷ []) more),
        )

-- a group more is read
pub left_chunk : (from rest x rest' : List ℕ) (done : List Cell) (g : Cell) (n : ℕ) → n ≡ 10 → rest ≡ x ++ rest' → length x ≡ min n (length rest) → 0 < length rest
    → ((c : Cell) → Short c → front 10 x ≡ cell_text c → g ≡ c) → Left from rest done → Left from rest' (done ++ (g ∷ []))
left_chunk from rest x rest' done g n ten cut long some reads w =
    let l : length x + length rest' ≡ length rest = sym (ap length cut ∙ length-append x rest') in
    let same : front 10 rest ≡ front 10 x =
    front_is 10 x (front 10 rest) (front_length 10 rest)
    (λ i h. get_d_front 10 rest i h ∙ ap (λ t. get_or t i 32) cut ∙ ⊎_elim
    (λ lt. get_or_append_left x rest' 32 i lt)
    (λ ge. get_or_past (x ++ rest') i 32 (omega (arith, length-append x rest')) ∙ sym (get_or_past x i 32 ge))
    (cases_lt i (length x))) in
    let off : rest' ≡ drop 10 rest =
    ⊎_elim
    (λ lt. nil_from_length rest' (omega arith) ∙ sym (drop_all 10 rest (omega arith)))
    (λ ge. sym (ap (drop 10) cut ∙ drop_at x rest' 10 (omega arith)))
    (cases_lt (length x) 10) in
    left_next from rest rest' done g some off (λ c h e. reads c h (sym same ∙ e)) w

pub left_last : (from rest : List ℕ) (done : List Cell) → length rest ≡ 0 → Left from rest done → (gs : List Cell) → AllByRecursion Short gs → Alike from (shown gs) → done ≡ gs
left_last from rest done none w gs s a = let o = w.others gs s a in go o.0 o.1 o.2 o.3
  where
    go : (more : List Cell) → AllByRecursion Short more → Alike rest (shown more) → gs ≡ done ++ more → done ≡ gs
    go [] s a e = sym (e ∙ append-nil done)
    go (h ∷ more) s a e = absurd (some_group h more s.0 (λ i. sym (ap (λ t. get_or t i 32) (nil_from_length rest none)) ∙ a i))

-- cells, and then conditions
module _ (ks : List Constraint) (letters : AllByRecursion LaidConstraint ks) where
  start_none : (ls : List Constraint) → start (flat_map three ls) ≡ 0
  unfolding start
  start_none [] = refl
  start_none (k ∷ ls) = refl

  start_cell : (c : Cell) (cs : List Cell) (ls : List Constraint) → AllByRecursion LaidCell cs → AllByRecursion LaidConstraint ls → start (c ∷ (cs ++ flat_map three ls)) ≡ 1 + start (cs ++ flat_map three ls)
  unfolding start
  start_cell c [] [] s t = refl
  start_cell c [] (k ∷ ls) s t = ap (λ b. cond b 0 (1 + start (flat_map three (k ∷ ls)))) (ne_eqb k.condition.form 32 t.0.0.0)
  start_cell c (d ∷ cs) ls s t = ap (λ b. cond b 0 (1 + start (d ∷ (cs ++ flat_map three ls)))) (ne_eqb d.letter 32 s.0.0.0)

  start_cells : (cs : List Cell) → AllByRecursion LaidCell cs → start (cs ++ flat_map three ks) ≡ length cs
  start_cells [] s = start_none ks
  start_cells (c ∷ cs) s = let e = start_cells cs s.1 in start_cell c cs ks s.1 letters ∙ omega arith

conditions_back : (ks : List Constraint) → conditions (flat_map three ks) ≡ ks
unfolding conditions
conditions_back [] = refl
conditions_back (k ∷ ks) = ap (λ t. k ∷ t) (conditions_back ks)

abbrev made : List Cell → List Constraint → Description
made cs ks = record { cells = cs; constraints = ks }

pub split_back : (d : Description) → AllByRecursion LaidCell d.cells → AllByRecursion LaidConstraint d.constraints → split (groups_of d) ≡ d
split_back d s t =
    let e = start_cells d.constraints t d.cells s in
    let l = sym e in
    let a : take (start (groups_of d)) (groups_of d) ≡ d.cells = take_at d.cells (flat_map three d.constraints) _ l in
    let b : conditions (drop (start (groups_of d)) (groups_of d)) ≡ d.constraints =
    ap conditions (drop_at d.cells (flat_map three d.constraints) _ l) ∙ conditions_back d.constraints in
    ap (λ cs. made cs (conditions (drop (start (groups_of d)) (groups_of d)))) a ∙ ap (made d.cells) b

-- groups that have room
pub cells_room : (cs : List Cell) → AllByRecursion LaidCell cs → AllByRecursion Short cs
cells_room [] s = tt
cells_room (c ∷ cs) s = (s.0.1, cells_room cs s.1)

condition_room : (ks : List Constraint) → AllByRecursion LaidConstraint ks → AllByRecursion Short (flat_map three ks)
condition_room [] t = tt
condition_room (k ∷ ks) t = (t.0.1, (t.0.2, (t.0.3, condition_room ks t.1)))

pub groups_room : (d : Description) → AllByRecursion LaidCell d.cells → AllByRecursion LaidConstraint d.constraints → AllByRecursion Short (groups_of d)
groups_room d s t = All-append Short d.cells (flat_map three d.constraints) (cells_room d.cells s) (condition_room d.constraints t)

-- where the conditions begin, and what they are
abbrev pub no_group : Cell
no_group = record { letter = 32; number = 0 }

later : (k n : ℕ) → unwrap_or (cond (ltb (1 + k) (suc n)) (Some (1 + k)) None) (suc (suc n)) ≡ 1 + unwrap_or (cond (ltb k n) (Some k) None) (suc n)
later k n = ⊎_elim (λ l. at true (lt-ltb k n l) (lt-ltb (1 + k) (suc n) (omega arith))) (λ g. at false (le-ltb k n g) (le-ltb (1 + k) (suc n) (omega arith))) (cases_lt k n)
  where
    at : (b : Bool) → ltb k n ≡ b → ltb (1 + k) (suc n) ≡ b → unwrap_or (cond (ltb (1 + k) (suc n)) (Some (1 + k)) None) (suc (suc n)) ≡ 1 + unwrap_or (cond (ltb k n) (Some k) None) (suc n)
    at true e f = rw (e, f)
    at false e f = rw (e, f) (omega arith)

pub start_is : (gs : List Cell) → unwrap_or (position (λ g. eqb g.letter 32) (drop 1 gs)) (length gs) ≡ start gs
unfolding start
start_is [] = refl
start_is (g ∷ []) = refl
start_is (g ∷ (h ∷ gs)) =
    ⊎_elim (λ e. at (start_is (h ∷ gs)) true (eq-eqb h.letter 32 e)) (λ d. at (start_is (h ∷ gs)) false (ne_eqb h.letter 32 d)) (cases_eq h.letter 32)
  where
    at : unwrap_or (position (λ g. eqb g.letter 32) gs) (length (h ∷ gs)) ≡ start (h ∷ gs) → (b : Bool) → eqb h.letter 32 ≡ b → unwrap_or (position (λ g. eqb g.letter 32) (h ∷ gs)) (length (g ∷ (h ∷ gs))) ≡ cond (eqb h.letter 32) 0 (1 + start (h ∷ gs))
    at i true e = rw (e, lt-ltb 0 (suc (length gs)) (omega arith))
    at i false e = rw e (later (position_or_len (λ g. eqb g.letter 32) gs) (length gs) ∙ ap (λ s. 1 + s) i)

abbrev pub of_three : List Cell → Constraint
of_three gs = condition_of (get_or gs 0 no_group) (get_or gs 1 no_group) (get_or gs 2 no_group)

pub conditions_are : (gs : List Cell) → map of_three (first_chunks 3 (length gs / 3) gs) ≡ conditions gs
unfolding conditions
conditions_are [] = refl
conditions_are (f ∷ []) = refl
conditions_are (f ∷ (a ∷ [])) = refl
conditions_are (f ∷ (a ∷ (b ∷ gs))) =
    let e : length (f ∷ (a ∷ (b ∷ gs))) / 3 ≡ suc (length gs / 3) = omega arith in
    ap (λ n. map of_three (first_chunks 3 n (f ∷ (a ∷ (b ∷ gs))))) e ∙ ap (λ t. condition_of f a b ∷ t) (conditions_are gs)
