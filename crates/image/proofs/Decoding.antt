-- What the fields of a line say of the lines that agree with it.
use Rattle.std.proofs.Common.{◌≡◌, ℕ, ◌+◌, ◌-◌, ◌*◌, ◌^◌, ◌<◌, ◌≤◌, List, [], ◌∷◌, ◌++◌, length, get_or, take, drop, Some, None, MatchOption, Option, ◌≢◌, sym, refl, ap, ◌∙◌, subst, ⊎_elim, arith, take-add}
use lib.Seq.{take-nil}
use Rattle.std.specs.List.{slice_get}
use Rattle.std.proofs.lemmas.List.{append_assoc, length-append, take_at, take_all, take-take, take_more, length-drop, length-take-le, length-take, get_or_at}
use Rattle.std.proofs.lemmas.Option.{slice_get_past}
use Rattle.std.proofs.lemmas.Bool.{cases_lt}
use Rattle.refusals.specs.Places.{FirstFault}
use Rattle.terms.specs.declared.cell.Cell.{Cell}
use Rattle.columns.specs.Columns.{blank, columns, Reads}
use Rattle.columns.proofs.Numbers.{columns_length, columns_same}
use Rattle.stores.specs.declared.count.Count.{Count}
use Rattle.stores.specs.Places.{Place, row_at}
use Rattle.terms.specs.Rows.{Storable}
use Rattle.image.specs.Lines.{Small, slot_text, slots, shown, blank_line, field, Blanks, Marked, Scanned}
use Rattle.image.specs.Texts.{Proper, text, fields, BadField}
use Rattle.image.proofs.Cutting.{reach, reach_cell, fields_length, fields_from, fields_to}
use Rattle.image.proofs.Slots.{split, slots_length, slots_more, take_slots, slots_front, slots_from_take, front_more, front_less, agrees, blanks_front}

-- the first bad field, by the bytes up to it
pub record Bad (Row : List Cell → Type 0) (line : List ℕ) (f : ℕ) : Type 0 where
  pub within : f < 14
  pub before : (e : Place) × (Proper Row e × (take (reach f) (text e) ≡ take (reach f) line))
  pub here : (e : Place) → Proper Row e → take (reach (f + 1)) (text e) ≡ take (reach (f + 1)) line → ⊥

pub first_bad : (Row : List Cell → Type 0) (line : List ℕ) (f : ℕ) → Bad Row line f → BadField Row line f
first_bad Row line f b =
    let w = b.within in
    let e = b.before in
    record {
      within = let l = fields_length line in omega arith;
      before = (fields (text e.0), record { place = e.0; proper = e.1.0; same = refl }, fields_from (text e.0) line f e.1.1);
      here = λ ys y q. b.here y.place y.proper (fields_to (text y.place) line (f + 1) (ap (take (f + 1)) (sym y.same) ∙ q));
    }

-- a row goes wrong at a cell that a line has
below : (Row : List Cell → Type 0) (fit : (cs : List Cell) → Row cs → Storable cs) (cs : List Cell) (p : ℕ) → length cs ≤ 12 → FirstFault Row cs p → p < 12
below Row fit cs p few bad =
    ⊎_elim (λ h. h)
    (λ h.
    let w = bad.within in
    let b = bad.before in
    let l = (fit b.0 b.1).few in
    let same : b.0 ≡ cs = sym (take_all p b.0 (omega arith)) ∙ b.2 ∙ take_all p cs (omega arith) in
    absurd (bad.here b.0 b.1 (ap (take (p + 1)) same)))
    (cases_lt p 12)

abbrev pub tail_in : Place → List ℕ
tail_in None = blank 7
tail_in (Some e) = columns 7 e.1

pub text_is : (e : Place) → text e ≡ slots 12 (row_at e) ++ (tail_in e ++ (10 ∷ []))
unfolding shown blank_line slots
text_is None = refl
text_is (Some e) = refl

module _ (Row : List Cell → Type 0) (fit : (cs : List Cell) → Row cs → Storable cs) where
  pub small_in : (e : Place) → Proper Row e → Small (row_at e)
  small_in None p = tt
  small_in (Some e) p = (fit e.0 p.0).short

  pub few_in : (e : Place) → Proper Row e → length (row_at e) ≤ 12
  few_in None p = omega arith
  few_in (Some e) p = (fit e.0 p.0).few

  pub tail_long : (e : Place) → Proper Row e → length (tail_in e) ≡ 7
  tail_long None p = refl
  tail_long (Some e) p = let h = p.1 in columns_length 7 e.1 (omega arith) (omega arith) (omega arith)

  pub text_front : (e : Place) → Proper Row e → (m : ℕ) → m ≤ 12 → take (m * 10) (text e) ≡ slots m (row_at e)
  text_front e p m h = ap (take (m * 10)) (text_is e) ∙ take_slots 12 m (row_at e) (tail_in e ++ (10 ∷ [])) (small_in e p) h

  text_tail : (e : Place) → Proper Row e → take 127 (text e) ≡ slots 12 (row_at e) ++ tail_in e
  text_tail e p =
      let a = slots_length 12 (row_at e) (small_in e p) in
      let b = tail_long e p in
      ap (take 127) (text_is e ∙ sym (append_assoc (slots 12 (row_at e)) (tail_in e) (10 ∷ [])))
      ∙ take_at (slots 12 (row_at e) ++ tail_in e) (10 ∷ []) 127 (length-append (slots 12 (row_at e)) (tail_in e) ∙ omega arith)

  pub text_last : (e : Place) → Proper Row e → get_or (text e) 127 0 ≡ 10
  text_last e p =
      let a = slots_length 12 (row_at e) (small_in e p) in
      let b = tail_long e p in
      ap (λ t. get_or t 127 0) (text_is e ∙ sym (append_assoc (slots 12 (row_at e)) (tail_in e) (10 ∷ [])))
      ∙ get_or_at (slots 12 (row_at e) ++ tail_in e) 10 [] 0 127 (length-append (slots 12 (row_at e)) (tail_in e) ∙ omega arith)

  pub text_length : (e : Place) → Proper Row e → length (text e) ≡ 128
  text_length e p =
      let a = slots_length 12 (row_at e) (small_in e p) in
      let b = tail_long e p in
      ap length (text_is e) ∙ length-append (slots 12 (row_at e)) (tail_in e ++ (10 ∷ [])) ∙ omega (arith, length-append (tail_in e) (10 ∷ []))

  module _ (line : List ℕ) (long : length line ≡ 128) (cs : List Cell) (scan : Scanned line cs) where
    -- agreeing lines have these cells
    L1 : (e : Place) → Proper Row e → (m : ℕ) → m ≤ 12 → take (m * 10) (text e) ≡ take (m * 10) line → take m (row_at e) ≡ take m cs
    L1 e p m h q = agrees line cs scan (row_at e) (small_in e p) m h (sym (text_front e p m h) ∙ q)

    L2 : (e : Place) → Proper Row e → (m : ℕ) → m ≤ 12 → length cs < m → take (m * 10) (text e) ≡ take (m * 10) line → row_at e ≡ cs
    L2 e p m h lt q =
        let t = L1 e p m h q in
        let c : take m cs ≡ cs = take_all m cs (omega arith) in
        let n = ap length (t ∙ c) in
        let l = length-take m (row_at e) in
        let s : length (row_at e) ≤ m = omega arith in
        sym (take_all m (row_at e) s) ∙ t ∙ c

    L3 : (e : Place) → Proper Row e → take 120 (text e) ≡ take 120 line → row_at e ≡ cs
    L3 e p q =
        let t = L1 e p 12 (omega arith) q in
        sym (take_all 12 (row_at e) (few_in e p)) ∙ t ∙ take_all 12 cs scan.few

    -- the grammar's refusal
    pub bad_cell : (p : ℕ) → 0 < length cs → FirstFault Row cs p → Bad Row line p
    bad_cell p some bad =
        let b = bad.before in
        let e : Place = Some (b.0, 0) in
        let pe : Proper Row e = (b.1, omega arith) in
        let low = below Row fit cs p scan.few bad in
        let r = reach_cell p (omega arith) in
        let r' = reach_cell (p + 1) (omega arith) in
        record {
          within = omega arith;
          before = (
            e,
            (
              pe,
              subst (λ n. take n (text e) ≡ take n line) (sym r)
                  (text_front e pe p (omega arith) ∙ slots_from_take p b.0 cs b.2 ∙ sym (slots_front (length cs) p cs scan.small bad.within) ∙ ap (take (p * 10)) (sym scan.front) ∙ front_less p (length cs) line bad.within),
            ),
          );
          here = λ x px q. clash x px (subst (λ n. take n (text x) ≡ take n line) r' q);
        }
      where
        clash : (x : Place) → Proper Row x → take ((p + 1) * 10) (text x) ≡ take ((p + 1) * 10) line → ⊥
        clash None px q =
            let t = L1 None px (p + 1) (let low = below Row fit cs p scan.few bad in omega arith) q in
            let n = ap length (sym (take-nil {A = Cell} (p + 1)) ∙ t) in
            let l = length-take (p + 1) cs in
            omega arith
        clash (Some x) px q = bad.here x.0 px.0 (L1 (Some x) px (p + 1) (let low = below Row fit cs p scan.few bad in omega arith) q)

    module _ (e₀ : Place) (p₀ : Proper Row e₀) (mine : row_at e₀ ≡ cs) where
      -- a mark after the row
      pub bad_mark : (f : ℕ) → Marked line (length cs) f → Bad Row line f
      bad_mark f m =
          let w = m.within in
          let a = m.above in
          let r = reach_cell f (omega arith) in
          let r' = reach_cell (f + 1) (omega arith) in
          let front : take (f * 10) line ≡ slots f cs = blanks_front (f - length cs) line cs (length cs) f (omega arith) (omega arith) m.before scan.front in
          record {
            within = omega arith;
            before = (e₀, (p₀, subst (λ n. take n (text e₀) ≡ take n line) (sym r) (text_front e₀ p₀ f (omega arith) ∙ ap (slots f) mine ∙ sym front)));
            here = λ x px q₀.
                let q : take ((f + 1) * 10) (text x) ≡ take ((f + 1) * 10) line = subst (λ n. take n (text x) ≡ take n line) r' q₀ in
                let same = L2 x px (f + 1) (omega arith) (omega arith) q in
                let both : slots f cs ++ slot_text (slice_get cs f) ≡ slots f cs ++ field f line =
                sym (slots_more f cs) ∙ ap (slots (f + 1)) (sym same) ∙ sym (text_front x px (f + 1) (omega arith)) ∙ q ∙ front_more f line ∙ ap (λ t. t ++ field f line) front in
                let s = split (slots f cs) (slot_text (slice_get cs f)) (slots f cs) (field f line) refl both in
                m.here (sym s.1 ∙ ap slot_text (slice_get_past cs f a));
          }

      module _ (clear : Blanks line (length cs) 12) where
        all_cells : take 120 line ≡ slots 12 cs
        all_cells = let few = scan.few in blanks_front (12 - length cs) line cs (length cs) 12 (omega arith) (omega arith) clear scan.front

        tail_line : take 127 line ≡ slots 12 cs ++ take 7 (drop 120 line)
        tail_line = take-add 120 7 line ∙ ap (λ t. t ++ take 7 (drop 120 line)) all_cells

        agree_tail : (x : Place) → Proper Row x → take 127 (text x) ≡ take 127 line → (row_at x ≡ cs) × (tail_in x ≡ take 7 (drop 120 line))
        agree_tail x px q =
            let at : take 120 (text x) ≡ take 120 line = sym (take-take 120 127 (text x) (omega arith)) ∙ ap (take 120) q ∙ take-take 120 127 line (omega arith) in
            let same = L3 x px at in
            let s = split (slots 12 (row_at x)) (tail_in x) (slots 12 cs) (take 7 (drop 120 line)) (ap (λ t. length (slots 12 t)) same) (sym (text_tail x px) ∙ q ∙ tail_line) in
            (same, s.1)

        -- a bad count
        pub bad_tail : ((x : Place) → Proper Row x → row_at x ≡ cs → tail_in x ≡ take 7 (drop 120 line) → ⊥) → Bad Row line 12
        unfolding reach
        bad_tail wrong =
            record {
              within = omega arith;
              before = (e₀, (p₀, text_front e₀ p₀ 12 (omega arith) ∙ ap (slots 12) mine ∙ sym all_cells));
              here = λ x px q. let s = agree_tail x px q in wrong x px s.0 s.1;
            }

        module _ (tail : tail_in e₀ ≡ take 7 (drop 120 line)) where
          whole : take 127 (text e₀) ≡ take 127 line
          whole = text_tail e₀ p₀ ∙ ap (λ t. slots 12 t ++ tail_in e₀) mine ∙ ap (λ t. slots 12 cs ++ t) tail ∙ sym tail_line

          -- no newline
          pub bad_end : (get_or line 127 0 ≡ 10 → ⊥) → Bad Row line 13
          unfolding reach
          bad_end wrong =
              record {
                within = omega arith;
                before = (e₀, (p₀, whole));
                here = λ x px q. wrong (ap (λ t. get_or t 127 0) (sym (sym (take_all 128 (text x) (let l = text_length x px in omega arith)) ∙ q ∙ take_all 128 line (omega arith))) ∙ text_last x px);
              }

          pub good : get_or line 127 0 ≡ 10 → line ≡ text e₀
          good e =
              let l = text_length e₀ p₀ in
              let t : text e₀ ≡ take 127 (text e₀) ++ (get_or (text e₀) 127 0 ∷ []) = sym (take_all 128 (text e₀) (omega arith)) ∙ take_more (text e₀) 127 0 (omega arith) in
              let u : line ≡ take 127 line ++ (get_or line 127 0 ∷ []) = sym (take_all 128 line (omega arith)) ∙ take_more line 127 0 (omega arith) in
              u ∙ ap (λ v. v ++ (get_or line 127 0 ∷ [])) (sym whole) ∙ ap (λ b. take 127 (text e₀) ++ (b ∷ [])) (e ∙ sym (text_last e₀ p₀)) ∙ sym t

-- the tails that no proper line has
module _ (Row : List Cell → Type 0) (fit : (cs : List Cell) → Row cs → Storable cs) (cs : List Cell) (tail : List ℕ) where
  pub blank_wrong : cs ≡ [] → (tail ≡ blank 7 → ⊥) → (x : Place) → Proper Row x → row_at x ≡ cs → tail_in x ≡ tail → ⊥
  blank_wrong nil wrong None p c t = wrong (sym t)
  blank_wrong nil wrong (Some x) p c t = let s = (fit x.0 p.0).some in let l = ap length (c ∙ nil) in omega arith

  pub count_wrong : 0 < length cs → ((n : ℕ) → n ≤ 999999 → tail ≡ columns 7 n → ⊥) → (x : Place) → Proper Row x → row_at x ≡ cs → tail_in x ≡ tail → ⊥
  count_wrong some wrong None p c t = let l = ap length c in omega arith
  count_wrong some wrong (Some x) p c t = wrong x.1 p.1 (sym t)

pub tail_seven : (line : List ℕ) → length line ≡ 128 → length (take 7 (drop 120 line)) ≡ 7
tail_seven line l = let d = length-drop 120 line in length-take-le 7 (drop 120 line) (omega arith)

-- the count that seven columns show
abbrev pub CountRead : List ℕ → Option Count → Type 0
CountRead tail r = MatchOption r ((n : ℕ) → n ≤ 999999 → tail ≢ columns 7 n) (λ c. tail ≡ columns 7 c.value)

pub count_read : (tail : List ℕ) (v : ℕ) (r : Option Count) → length tail ≡ 7 → v < 2 ^ 32 → Reads tail (Some v) → MatchOption r (999999 < v) (λ c. c.value ≡ v) → CountRead tail r
count_read tail v None l s e h = λ n few q. let same = columns_same 7 v n (omega arith) (omega arith) (sym (e ∙ ap (λ m. columns m v) l) ∙ q) in omega arith
count_read tail v (Some c) l s e h = e ∙ ap (λ m. columns m v) l ∙ ap (columns 7) (sym h)
