-- What lines mean, and which line is whose.
use Rattle.std.proofs.Common.{◌≡◌, ℕ, zero, suc, ◌+◌, ◌/◌, ◌<◌, ◌≤◌, true, false, cond, List, [], ◌∷◌, ◌++◌, map, length, get_or, take, drop, set, is_some, Some, None, count_by, Option, sym, refl, ap, ◌∙◌, subst, ⊎_elim, arith}
use Rattle.std.specs.List.{slice_get}
use Rattle.std.specs.Option.{option_to_list, option_map}
use Rattle.std.specs.Int.Digits.{number_from_digits}
use Rattle.std.specs.Str.{bytes_eq}
use Rattle.std.proofs.lemmas.List.FromFn.{length-map-range_with_len, get_or-map-range_with_len}
use Rattle.std.proofs.lemmas.Slice.Eq.{bytes_eq-Decides}
use Rattle.std.proofs.lemmas.List.{take_at, drop_at, take_all, length-set, get_or-set_same, get_or-set_other, same_lists}
use Rattle.std.proofs.lemmas.Option.{slice_get-get_or}
use Rattle.std.proofs.lemmas.List.Sums.{sum_by-cons}
use Rattle.std.proofs.lemmas.Bool.{cases_eq, cases_Bool, cond-true, cond-false, both_ways}
use Rattle.terms.specs.declared.cell.Cell.{Cell}
use Rattle.columns.specs.Columns.{blank, cell_text, Short}
use Rattle.columns.specs.Steps.{worth}
use Rattle.columns.proofs.Numbers.{reads_back, columns_same}
use Rattle.columns.proofs.Cells.{cell_marked}
use Rattle.stores.specs.declared.count.Count.{Count}
use Rattle.stores.specs.Places.{Holding, Place, row_at, taken, hits}
use Rattle.terms.specs.Equality.{cells_eq}
use Rattle.terms.specs.Rows.{same_true, same_self, Storable}
use Rattle.image.specs.Lines.{Scanned, slot_text, slots, field, shown, blank_line}
use Rattle.image.specs.Texts.{Proper, text}
use Rattle.image.specs.Meaning.{line, lines_in, cell_in, slot_in, cells_shown, meaning, entries, Shows}
use Rattle.image.proofs.Slots.{split, Little, little, slots_more, slots_length, front_more, take_from_slots, take_nth, agrees}
use Rattle.image.proofs.Decoding.{CountRead, tail_in, text_is, small_in, few_in, tail_long, text_front}

same_bytes : (xs ys : List ℕ) → xs ≡ ys → bytes_eq xs ys ≡ true
same_bytes xs ys e = (bytes_eq-Decides xs ys).1 e

other_bytes : (xs ys : List ℕ) → (xs ≡ ys → ⊥) → bytes_eq xs ys ≡ false
other_bytes xs ys n = ⊎_elim (λ t. absurd (n ((bytes_eq-Decides xs ys).0 t))) (λ f. f) (cases_Bool (bytes_eq xs ys))

cell_back : (c : Cell) → Short c → cell_in (cell_text c) ≡ c
unfolding cell_text
cell_back c h = ap (λ n. record { letter = c.letter; number = n }) (reads_back 9 c.number (omega arith))

slot_back : (o : Option Cell) → Little o → slot_in (slot_text o) ≡ o
slot_back None l = refl
slot_back (Some c) l = cond-false (bytes_eq (cell_text c) (blank 10)) None (Some (cell_in (cell_text c))) (other_bytes (cell_text c) (blank 10) (λ e. cell_marked c l e)) ∙ ap Some (cell_back c l)

module _ (Row : List Cell → Type 0) (fit : (cs : List Cell) → Row cs → Storable cs) where
  field_text : (e : Place) → Proper Row e → (j : ℕ) → j < 12 → field j (text e) ≡ slot_text (slice_get (row_at e) j)
  field_text e p j h =
      let both : slots j (row_at e) ++ field j (text e) ≡ slots j (row_at e) ++ slot_text (slice_get (row_at e) j) =
      ap (λ t. t ++ field j (text e)) (sym (text_front Row fit e p j (omega arith))) ∙ sym (front_more j (text e)) ∙ text_front Row fit e p (j + 1) (omega arith) ∙ slots_more j (row_at e) in
      (split (slots j (row_at e)) (field j (text e)) (slots j (row_at e)) (slot_text (slice_get (row_at e) j)) refl both).1

  cells_back : (e : Place) → Proper Row e → (j : ℕ) → j ≤ 12 → cells_shown j (text e) ≡ take j (row_at e)
  unfolding cells_shown
  cells_back e p zero h = refl
  cells_back e p (suc j) h =
      ap (λ t. t ++ option_to_list (slot_in (field j (text e)))) (cells_back e p j (omega arith))
      ∙ ap (λ t. take j (row_at e) ++ option_to_list (slot_in t)) (field_text e p j (omega arith))
      ∙ ap (λ o. take j (row_at e) ++ option_to_list o) (slot_back (slice_get (row_at e) j) (little (row_at e) j (small_in Row fit e p)))
      ∙ sym (take_nth (row_at e) j)

  tail_text : (e : Place) → Proper Row e → take 7 (drop 120 (text e)) ≡ tail_in e
  tail_text e p =
      let a = slots_length 12 (row_at e) (small_in Row fit e p) in
      ap (λ t. take 7 (drop 120 t)) (text_is e) ∙ ap (take 7) (drop_at (slots 12 (row_at e)) (tail_in e ++ (10 ∷ [])) 120 a) ∙ take_at (tail_in e) (10 ∷ []) 7 (tail_long Row fit e p)

  head_some : (x : Holding) → Proper Row (Some x) → field 0 (shown x.0 x.1) ≡ blank 10 → ⊥
  head_some x p e =
      let f = fit x.0 p.0 in
      let d : Cell = record { letter = 0; number = 0 } in
      let n : slice_get x.0 0 ≡ Some (get_or x.0 0 d) = slice_get-get_or x.0 0 d f.some in
      cell_marked (get_or x.0 0 d) (subst Little n (little x.0 0 f.short)) (sym (sym e ∙ field_text (Some x) p 0 (omega arith) ∙ ap slot_text n))

  -- a proper line means what it is the text of
  pub meaning_text : (e : Place) → Proper Row e → meaning (text e) ≡ e
  unfolding meaning
  meaning_text None p = cond-true (bytes_eq (field 0 blank_line) (blank 10)) None _ (same_bytes _ _ (field_text None p 0 (omega arith)))
  meaning_text (Some x) p =
      let h = p.1 in
      let c : cells_shown 12 (text (Some x)) ≡ x.0 = cells_back (Some x) p 12 (omega arith) ∙ take_all 12 x.0 (fit x.0 p.0).few in
      let n : number_from_digits 10 (map worth (take 7 (drop 120 (text (Some x))))) ≡ x.1 = ap (λ t. number_from_digits 10 (map worth t)) (tail_text (Some x) p) ∙ reads_back 7 x.1 (omega arith) in
      cond-false (bytes_eq (field 0 (text (Some x))) (blank 10)) None _ (other_bytes _ _ (head_some x p))
      ∙ ap (λ v. Some (v, number_from_digits 10 (map worth (take 7 (drop 120 (text (Some x))))))) c ∙ ap (λ v. Some (x.0, v)) n

  pub meaning_from : (s : List ℕ) (e : Place) → Proper Row e → s ≡ text e → meaning s ≡ e
  meaning_from s e p q = ap meaning q ∙ meaning_text e p

  pub shows_from : (s : List ℕ) (e : Place) → Proper Row e → s ≡ text e → Shows Row s
  shows_from s e p q =
      let m : meaning s ≡ e = ap meaning q ∙ meaning_text e p in
      record { good = subst (Proper Row) (sym m) p; same = q ∙ ap text (sym m) }

  -- a line has a row exactly if it begins as the row's line
  pub shows_front : (s : List ℕ) → Shows Row s → take 120 s ≡ slots 12 (row_at (meaning s))
  shows_front s w = ap (take 120) w.same ∙ text_front Row fit (meaning s) w.good 12 (omega arith)

  pub shows_tail : (s : List ℕ) → Shows Row s → take 7 (drop 120 s) ≡ tail_in (meaning s)
  shows_tail s w = ap (λ t. take 7 (drop 120 t)) w.same ∙ tail_text (meaning s) w.good

  pub shows_cells : (s : List ℕ) → Shows Row s → (cs : List Cell) → Storable cs → take 120 s ≡ slots 12 cs → row_at (meaning s) ≡ cs
  shows_cells s w cs f e =
      let t = take_from_slots 12 (row_at (meaning s)) cs (small_in Row fit (meaning s) w.good) f.short (sym (shows_front s w) ∙ e) in
      sym (take_all 12 (row_at (meaning s)) (few_in Row fit (meaning s) w.good)) ∙ t ∙ take_all 12 cs f.few

  pub hits_from : (s : List ℕ) → Shows Row s → (cs : List Cell) → Storable cs → take 120 s ≡ slots 12 cs → hits (meaning s) cs ≡ true
  hits_from s w cs f e = go (meaning s) (shows_cells s w cs f e)
    where
      go : (o : Place) → row_at o ≡ cs → hits o cs ≡ true
      go None q = absurd (let a = f.some in let l = ap length q in omega arith)
      go (Some x) q = ap (λ v. cells_eq v cs) q ∙ same_self cs

  pub front_from : (s : List ℕ) → Shows Row s → (cs : List Cell) → hits (meaning s) cs ≡ true → take 120 s ≡ slots 12 cs
  front_from s w cs h = shows_front s w ∙ ap (slots 12) (go (meaning s) h)
    where
      go : (o : Place) → hits o cs ≡ true → row_at o ≡ cs
      go None q = absurd (both_ways false refl q)
      go (Some x) q = same_true x.0 cs q

-- a line is free exactly if it begins with a blank cell
pub free_from : (s : List ℕ) → field 0 s ≡ blank 10 → taken (meaning s) ≡ false
unfolding meaning
free_from s e = ap is_some (cond-true (bytes_eq (field 0 s) (blank 10)) None _ (same_bytes (field 0 s) (blank 10) e))

pub taken_from : (s : List ℕ) → (field 0 s ≡ blank 10 → ⊥) → taken (meaning s) ≡ true
unfolding meaning
taken_from s e = ap is_some (cond-false (bytes_eq (field 0 s) (blank 10)) None _ (other_bytes (field 0 s) (blank 10) e))

-- the places of an image
pub entries_length : (xs : List ℕ) → length (entries xs) ≡ lines_in xs
unfolding entries
entries_length xs = length-map-range_with_len (λ k. meaning (line k xs)) 0 (lines_in xs)

pub entries_at : (xs : List ℕ) (k : ℕ) (d : Place) → k < lines_in xs → get_or (entries xs) k d ≡ meaning (line k xs)
unfolding entries
entries_at xs k d h = get_or-map-range_with_len (λ i. meaning (line i xs)) 0 (lines_in xs) k k d h (omega arith)

pub entries_set : (xs ys : List ℕ) (k : ℕ) (e : Place) → k < lines_in xs → length ys ≡ length xs → meaning (line k ys) ≡ e → ((j : ℕ) → (j ≡ k → ⊥) → line j ys ≡ line j xs) → entries ys ≡ set (entries xs) k e
entries_set xs ys k e h l m others =
    let lx = entries_length xs in
    let ly = entries_length ys in
    let ls = length-set (entries xs) k e in
    let q : lines_in ys ≡ lines_in xs = ap (λ n. n / 128) l in
    same_lists (entries ys) (set (entries xs) k e) (omega arith)
    (λ j d b.
    entries_at ys j d (omega arith)
    ∙ ⊎_elim
    (λ s. ap (λ i. meaning (line i ys)) s ∙ m ∙ sym (ap (λ i. get_or (set (entries xs) k e) i d) s ∙ get_or-set_same (entries xs) k e d (omega arith)))
    (λ n. ap meaning (others j n) ∙ sym (get_or-set_other (entries xs) k j e d n ∙ entries_at xs j d (omega arith)))
    (cases_eq j k))

pub head_is : (s : List ℕ) → take 10 s ≡ field 0 s
unfolding field
head_is s = refl

-- reading a proper line
pub idle : (cs : List Cell) → Storable cs → Storable cs
idle cs f = f

pub scanned_cells : (s : List ℕ) (cs : List Cell) → Shows Storable s → Scanned s cs → row_at (meaning s) ≡ cs
scanned_cells s cs w scan =
    let t = agrees s cs scan (row_at (meaning s)) (small_in Storable idle (meaning s) w.good) 12 (omega arith) (sym (shows_front Storable idle s w)) in
    sym (take_all 12 (row_at (meaning s)) (few_in Storable idle (meaning s) w.good)) ∙ t ∙ take_all 12 cs scan.few

pub none_from : (o : Place) (cs : List Cell) → Proper Storable o → row_at o ≡ cs → (Storable cs → ⊥) → None ≡ o
none_from None cs p e n = refl
none_from (Some x) cs p e n = absurd (n (subst Storable e p.0))

pub fit_tail : (s : List ℕ) → Shows Storable s → take 7 (drop 120 s) ≡ tail_in (meaning s)
fit_tail s w = shows_tail Storable idle s w

-- the row and the count that are read of a proper line
pub row_read : (s : List ℕ) (cs : List Cell) → Shows Storable s → Scanned s cs → 0 < length cs → (r : Option Count) → CountRead (take 7 (drop 120 s)) r → option_map (λ c. (cs, c.value)) r ≡ meaning s
row_read s cs w scan some r k = go (meaning s) w.good (scanned_cells s cs w scan) (fit_tail s w) r k
  where
    go : (o : Place) → Proper Storable o → row_at o ≡ cs → take 7 (drop 120 s) ≡ tail_in o → (r : Option Count) → CountRead (take 7 (drop 120 s)) r → option_map (λ c. (cs, c.value)) r ≡ o
    go None p e t r k = absurd (let l = ap length e in omega arith)
    go (Some x) p e t None k = absurd (k x.1 p.1 t)
    go (Some x) p e t (Some c) k =
        let h = p.1 in
        let f = c.few in
        ap (λ v. Some (v, c.value)) (sym e) ∙ ap (λ n. Some (x.0, n)) (columns_same 7 c.value x.1 (omega arith) (omega arith) (sym k ∙ t))

pub count_all : (rs : List Place) → ((j : ℕ) (d : Place) → j < length rs → taken (get_or rs j d) ≡ true) → count_by taken rs ≡ length rs
count_all [] f = refl
count_all (r ∷ rs) f =
    let a : ◌≡◌ {A = ℕ} (cond (taken r) 1 0) 1 = ap (λ b. cond b 1 0) (f 0 r (omega arith)) in
    let b = count_all rs (λ j d h. f (suc j) d (omega arith)) in
    sum_by-cons (λ x. cond (taken x) 1 0) r rs ∙ omega arith
