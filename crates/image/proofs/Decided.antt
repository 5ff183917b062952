-- What decoding a line finds, step by step.
use Rattle.std.proofs.Common.{◌≡◌, ℕ, ◌<◌, ◌≤◌, List, [], length, get_or, take, drop, Some, None, Ok, Err, Option, sym, refl, ap, ◌∙◌, subst, ⊎_elim, arith}
use Rattle.std.specs.Option.{ok_or}
use Rattle.std.proofs.lemmas.List.{nil_from_length}
use Rattle.std.proofs.lemmas.Bool.{cases_lt}
use Rattle.kinds.specs.Meaning.{Meaning, Sound}
use Rattle.terms.specs.declared.cell.Cell.{Cell}
use Rattle.terms.specs.declared.fault.PatternFault.{PatternFault}
use Rattle.terms.specs.Faults.{pattern_refusal}
use Rattle.terms.specs.Proper.{RowCells}
use Rattle.terms.specs.Reading.{CellFault, CellsRefused}
use Rattle.columns.specs.Columns.{blank, columns}
use Rattle.terms.specs.declared.row.Row.{Row as Key}
use Rattle.stores.specs.declared.count.Count.{Count}
use Rattle.image.specs.declared.marred.Marred.{Marred}
use Rattle.terms.specs.Fitting.{cells_of}
use Rattle.terms.specs.Rows.{Storable}
use Rattle.terms.proofs.Storing.{storable_row, row_storable}
use Rattle.image.specs.Lines.{Blanks, Marked, Scanned, shown, blank_line}
use Rattle.image.specs.Texts.{Proper, BadField}
use Rattle.image.proofs.Decoding.{first_bad, bad_cell, bad_mark, bad_tail, bad_end, good, blank_wrong, count_wrong, tail_seven, CountRead}

pub key_some : (k : Key) (cs : List Cell) → cells_of k ≡ cs → 0 < length cs
key_some k cs e = (subst Storable e (storable_row k)).some

-- the place that a cell's fault names
same_place : (i r : ℕ) → ◌≡◌ {A = Option ℕ} (Some i) (Some r) → i ≡ r
same_place i r e = cc

fault_at : (M : Meaning) (cs : List Cell) (i r : ℕ) (f : PatternFault) → CellFault M cs i f → (pattern_refusal f).place ≡ Some r → i ≡ r
fault_at M cs i r f x e =
    ⊎_elim
    (λ y. same_place i r (sym (ap (λ g. (pattern_refusal g).place) y.0) ∙ e))
    (λ y. same_place i r (sym (ap (λ g. (pattern_refusal g).place) y.0) ∙ e)) x

module _ (M : Meaning) (sound : Sound M) (sig line : List ℕ) (long : length line ≡ 128) (cs found : List Cell) (are : cs ≡ found) (scanned : Scanned line found) where
  abbrev Row : List Cell → Type 0
  Row = RowCells sig M

  fit : (cs : List Cell) → Row cs → Storable cs
  fit = row_storable M sound sig

  scan : Scanned line cs
  scan = subst (Scanned line) (sym are) scanned

  -- where the cells cannot be kept there are none
  module _ (none : Storable cs → ⊥) where
    empty : length cs ≡ 0
    empty = ⊎_elim (λ h. absurd (none (record { some = h; few = scan.few; short = scan.small }))) (λ h. omega arith) (cases_lt 0 (length cs))

    nil : cs ≡ []
    nil = nil_from_length cs empty

    pub mark_first : (f : ℕ) → Marked line 0 f → BadField Row line f
    mark_first f m = first_bad Row line f (bad_mark Row fit line long cs scan None tt (sym nil) f (subst (λ k. Marked line k f) (sym empty) m))

    module _ (b : Blanks line 0 12) where
      clear : Blanks line (length cs) 12
      clear = subst (λ k. Blanks line k 12) (sym empty) b

      pub tail_first : (take 7 (drop 120 line) ≡ blank (length (take 7 (drop 120 line))) → ⊥) → BadField Row line 12
      tail_first w = first_bad Row line 12 (bad_tail Row fit line long cs scan None tt (sym nil) clear (blank_wrong Row fit cs _ nil (λ e. w (e ∙ ap blank (sym (tail_seven line long))))))

      module _ (t : take 7 (drop 120 line) ≡ blank (length (take 7 (drop 120 line)))) where
        pub end_first : (get_or line 127 0 ≡ 10 → ⊥) → BadField Row line 13
        end_first w = first_bad Row line 13 (bad_end Row fit line long cs scan None tt (sym nil) clear (sym (t ∙ ap blank (tail_seven line long))) w)

        pub good_first : get_or line 127 0 ≡ 10 → line ≡ blank_line
        good_first e = good Row fit line long cs scan None tt (sym nil) clear (sym (t ∙ ap blank (tail_seven line long))) e

  pub cell_refused : (f : PatternFault) (r : ℕ) → 0 < length cs → CellsRefused Row M cs f → (pattern_refusal f).place ≡ Some r → BadField Row line r
  cell_refused f r some x e =
      subst (BadField Row line) (fault_at M cs x.place r f x.fault e) (first_bad Row line x.place (bad_cell Row fit line long cs scan x.place some x.first))

  -- where a row came
  module _ (row : Row cs) where
    proper : (n : ℕ) → n ≤ 999999 → Proper Row (Some (cs, n))
    proper n h = (row, h)

    pub mark_row : (f : ℕ) → Marked line (length cs) f → BadField Row line f
    mark_row f m = first_bad Row line f (bad_mark Row fit line long cs scan (Some (cs, 0)) (proper 0 (omega arith)) refl f m)

    module _ (b : Blanks line (length cs) 12) (r : Option Count) (read : CountRead (take 7 (drop 120 line)) r) where
      pub tail_none : (m e : Marred) → ok_or r m ≡ Err e → m.field ≡ 12 → BadField Row line e.field
      tail_none m e is twelve = go r read is
        where
          go : (r : Option Count) → CountRead (take 7 (drop 120 line)) r → ok_or r m ≡ Err e → BadField Row line e.field
          go None w i =
              let same : m ≡ e = cc in
              subst (λ f. BadField Row line f) (sym twelve ∙ ap (λ f. f.field) same)
              (first_bad Row line 12 (bad_tail Row fit line long cs scan (Some (cs, 0)) (proper 0 (omega arith)) refl b (count_wrong Row fit cs _ (fit cs row).some w)))
          go (Some n) w i = absurd (let z : ◌≡◌ {A = ℕ} 0 1 = cc in omega arith)

      module _ (n : Count) (m : Marred) (is : ok_or r m ≡ Ok n) where
        count : r ≡ Some n
        count = go r is
          where
            go : (r : Option Count) → ok_or r m ≡ Ok n → r ≡ Some n
            go None i = absurd (let z : ◌≡◌ {A = ℕ} 0 1 = cc in omega arith)
            go (Some k) i = cc

        tail : columns 7 n.value ≡ take 7 (drop 120 line)
        tail = sym (subst (CountRead (take 7 (drop 120 line))) count read)

        pub end_row : (get_or line 127 0 ≡ 10 → ⊥) → BadField Row line 13
        end_row w = first_bad Row line 13 (bad_end Row fit line long cs scan (Some (cs, n.value)) (proper n.value n.few) refl b tail w)

        -- of the key that is answered
        pub good_row : (key : List Cell) → key ≡ cs → get_or line 127 0 ≡ 10 → (Row key × (n.value ≤ 999999)) × (line ≡ shown key n.value)
        good_row key k e = ((subst Row (sym k) row, n.few), good Row fit line long cs scan (Some (cs, n.value)) (proper n.value n.few) refl b tail e ∙ ap (λ xs. shown xs n.value) (sym k))
