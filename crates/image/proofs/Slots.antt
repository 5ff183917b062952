-- A line by its cells: what its front says of the cells.
use Rattle.std.proofs.Common.{◌≡◌, ℕ, zero, suc, ◌+◌, ◌-◌, ◌*◌, ◌<◌, ◌≤◌, List, [], ◌∷◌, ◌++◌, length, get_or, take, drop, set, Some, None, Ok, Err, decimal, Option, Result, sym, refl, ap, ◌∙◌, subst, ⊎_elim, suc-le-suc, zero-le, add-one, arith, take-add}
use borrow.Rule.Slice.PartMut.{put_mid}
use lib.Seq.{take-length}
use Rattle.std.specs.List.{slice_get}
use Rattle.std.specs.Option.{option_to_list}
use Rattle.std.proofs.lemmas.List.{append-nil, append_assoc, length-append, take_at, drop_at, take_all, take-take, length-drop, length-take-le, drop_all, drop-replicate, take-replicate, drop-drop, drop_more, set_at}
use Rattle.std.proofs.lemmas.Slice.{take-put_mid, drop-put_mid}
use Rattle.std.proofs.lemmas.Fmt.{length-decimal-le}
use Rattle.std.proofs.ByRecursion.{All-get_or}
use Rattle.std.proofs.lemmas.Option.{slice_get-get_or, slice_get_past}
use Rattle.std.proofs.lemmas.Bool.{cases_eq, cases_lt}
use Rattle.terms.specs.declared.cell.Cell.{Cell}
use Rattle.columns.specs.Columns.{blank, columns, cell_text, Short, Writes, WritesCell}
use Rattle.columns.specs.declared.number.NoRoom.{NoRoom}
use Rattle.terms.specs.Rows.{Storable}
use Rattle.columns.proofs.Numbers.{columns_length}
use Rattle.columns.proofs.Cells.{cell_length, cell_same, cell_marked}
use Rattle.image.specs.Lines.{Small, slot_text, slots, shown, blank_line, field, Blanks, Scanned}

-- two lists in two parts, the first as long
pub split : {X : Type 0} (xs ys us vs : List X) → length xs ≡ length us → xs ++ ys ≡ us ++ vs → (xs ≡ us) × (ys ≡ vs)
split xs ys us vs l e = (
  sym (take_at xs ys (length xs) refl) ∙ ap (take (length xs)) e ∙ take_at us vs (length xs) (sym l),
  sym (drop_at xs ys (length xs) refl) ∙ ap (drop (length xs)) e ∙ drop_at us vs (length xs) (sym l),
)

-- cells by place
abbrev pub Little : Option Cell → Type 0
Little None = Unit {0}
Little (Some c) = Short c

pub little : (cs : List Cell) (j : ℕ) → Small cs → Little (slice_get cs j)
little [] j s = tt
little (c ∷ cs) zero s = s.0
little (c ∷ cs) (suc j) s = little cs j s.1

nth_take : {X : Type 0} (xs : List X) (j i : ℕ) → i < j → slice_get (take j xs) i ≡ slice_get xs i
nth_take xs zero i h = absurd (omega arith)
nth_take [] (suc j) i h = refl
nth_take (x ∷ xs) (suc j) zero h = refl
nth_take (x ∷ xs) (suc j) (suc i) h = nth_take xs j i (omega arith)

pub take_nth : {X : Type 0} (xs : List X) (j : ℕ) → take (suc j) xs ≡ take j xs ++ option_to_list (slice_get xs j)
take_nth [] zero = refl
take_nth [] (suc j) = refl
take_nth (x ∷ xs) zero = refl
take_nth (x ∷ xs) (suc j) = ap (λ t. x ∷ t) (take_nth xs j)

pub nth_none : {X : Type 0} (xs : List X) (j : ℕ) → slice_get xs j ≡ None → length xs ≤ j
nth_none [] j e = zero-le
nth_none (x ∷ xs) zero e = absurd (let z : ◌≡◌ {A = ℕ} 0 1 = cc in omega arith)
nth_none (x ∷ xs) (suc j) e = suc-le-suc (nth_none xs j e)

slot_length : (o : Option Cell) → Little o → length (slot_text o) ≡ 10
slot_length None l = refl
slot_length (Some c) l = cell_length c l

pub slot_same : (a b : Option Cell) → Little a → Little b → slot_text a ≡ slot_text b → a ≡ b
slot_same None None la lb e = refl
slot_same None (Some y) la lb e = absurd (cell_marked y lb (sym e))
slot_same (Some x) None la lb e = absurd (cell_marked x la e)
slot_same (Some x) (Some y) la lb e = ap Some (cell_same x y la lb e)

-- the first cells of a line
pub slots_length : (j : ℕ) (cs : List Cell) → Small cs → length (slots j cs) ≡ j * 10
unfolding slots
slots_length zero cs s = refl
slots_length (suc j) cs s =
    let a = slots_length j cs s in
    let b = slot_length (slice_get cs j) (little cs j s) in
    length-append (slots j cs) (slot_text (slice_get cs j)) ∙ omega arith

pub slots_more : (j : ℕ) (cs : List Cell) → slots (j + 1) cs ≡ slots j cs ++ slot_text (slice_get cs j)
unfolding slots
slots_more j cs = ap (λ m. slots m cs) (add-one j)

pub take_slots : (k j : ℕ) (cs : List Cell) (rest : List ℕ) → Small cs → j ≤ k → take (j * 10) (slots k cs ++ rest) ≡ slots j cs
unfolding slots
take_slots zero j cs rest s h =
    let z : j ≡ 0 = omega arith in ap (λ m. take (m * 10) rest) z ∙ sym (ap (λ m. slots m cs) z)
take_slots (suc k) j cs rest s h =
    ⊎_elim
    (λ e. let l = slots_length (suc k) cs s in take_at (slots (suc k) cs) rest (j * 10) (omega arith) ∙ ap (λ m. slots m cs) (sym e))
    (λ ne. ap (take (j * 10)) (append_assoc (slots k cs) (slot_text (slice_get cs k)) rest) ∙ take_slots k j cs (slot_text (slice_get cs k) ++ rest) s (omega arith))
    (cases_eq j (suc k))

pub slots_front : (k j : ℕ) (cs : List Cell) → Small cs → j ≤ k → take (j * 10) (slots k cs) ≡ slots j cs
slots_front k j cs s h = ap (take (j * 10)) (sym (append-nil (slots k cs))) ∙ take_slots k j cs [] s h

-- they are the same exactly where the cells are
pub slots_nth : (j : ℕ) (cs ds : List Cell) → ((i : ℕ) → i < j → slice_get cs i ≡ slice_get ds i) → slots j cs ≡ slots j ds
unfolding slots
slots_nth zero cs ds f = refl
slots_nth (suc j) cs ds f =
    let a = slots_nth j cs ds (λ i h. f i (omega arith)) in
    let b = f j (omega arith) in
    cc

pub slots_from_take : (j : ℕ) (cs ds : List Cell) → take j cs ≡ take j ds → slots j cs ≡ slots j ds
slots_from_take j cs ds e = slots_nth j cs ds (λ i h. sym (nth_take cs j i h) ∙ ap (λ t. slice_get t i) e ∙ nth_take ds j i h)

pub take_from_slots : (j : ℕ) (cs ds : List Cell) → Small cs → Small ds → slots j cs ≡ slots j ds → take j cs ≡ take j ds
unfolding slots
take_from_slots zero cs ds s t e = refl
take_from_slots (suc j) cs ds s t e =
    let p = split (slots j cs) (slot_text (slice_get cs j)) (slots j ds) (slot_text (slice_get ds j)) (slots_length j cs s ∙ sym (slots_length j ds t)) e in
    let a = take_from_slots j cs ds s t p.0 in
    let b = slot_same (slice_get cs j) (slice_get ds j) (little cs j s) (little ds j t) p.1 in
    take_nth cs j ∙ ap (λ x. x ++ option_to_list (slice_get cs j)) a ∙ ap (λ o. take j ds ++ option_to_list o) b ∙ sym (take_nth ds j)

-- one cell of the line more
pub front_more : (j : ℕ) (line : List ℕ) → take ((j + 1) * 10) line ≡ take (j * 10) line ++ field j line
unfolding field
front_more j line = let e : (j + 1) * 10 ≡ j * 10 + 10 = omega arith in ap (λ m. take m line) e ∙ take-add (j * 10) 10 line

pub front_less : (j k : ℕ) (line : List ℕ) → j ≤ k → take (j * 10) (take (k * 10) line) ≡ take (j * 10) line
front_less j k line h = take-take (j * 10) (k * 10) line (omega arith)

-- the line's cells, where its front is that of some cells
module _ (line : List ℕ) (cs : List Cell) (scan : Scanned line cs) (ds : List Cell) (small : Small ds) where
  pub agrees : (m : ℕ) → m ≤ 12 → slots m ds ≡ take (m * 10) line → take m ds ≡ take m cs
  agrees m few e =
      ⊎_elim
      (λ past.
      let k = length cs in
      let at : slots k ds ≡ slots k cs = sym (slots_front m k ds small (omega arith)) ∙ ap (take (k * 10)) e ∙ front_less k m line (omega arith) ∙ scan.front in
      let same : take k ds ≡ cs = take_from_slots k ds cs small scan.small at ∙ take-length cs in
      let next : slots k ds ++ slot_text (slice_get ds k) ≡ take (k * 10) line ++ field k line =
      sym (slots_more k ds) ∙ sym (slots_front m (k + 1) ds small (omega arith)) ∙ ap (take ((k + 1) * 10)) e ∙ front_less (k + 1) m line (omega arith) ∙ front_more k line in
      let p = split (slots k ds) (slot_text (slice_get ds k)) (take (k * 10) line) (field k line) (ap length (at ∙ sym scan.front)) next in
      let short : length ds ≤ k = ends (slice_get ds k) refl (little ds k small) p.1 (omega arith) in
      take_all m ds (omega arith) ∙ sym (take_all k ds short) ∙ same ∙ sym (take_all m cs (omega arith)))
      (λ within.
      take_from_slots m ds cs small scan.small
      (e ∙ sym (front_less m (length cs) line within) ∙ ap (take (m * 10)) scan.front ∙ slots_front (length cs) m cs scan.small within))
      (cases_lt (length cs) m)
    where
      ends : (o : Option Cell) → slice_get ds (length cs) ≡ o → Little o → slot_text o ≡ field (length cs) line → length cs < 12 → length ds ≤ length cs
      ends None i l t h = nth_none ds (length cs) i
      ends (Some c) i l t h = absurd (scan.stops h c l (sym t))

-- blank cells
pub blanks_front : (n : ℕ) (line : List ℕ) (cs : List Cell) (from to : ℕ) → to ≡ from + n → length cs ≤ from → Blanks line from to → take (from * 10) line ≡ slots from cs → take (to * 10) line ≡ slots to cs
blanks_front zero line cs from to e h b f = let z : to ≡ from = omega arith in ap (λ m. take (m * 10) line) z ∙ f ∙ ap (λ m. slots m cs) (sym z)
blanks_front (suc n) line cs from to e h b f =
    let past = slice_get_past cs from h in
    blanks_front n line cs (from + 1) to (omega arith) (omega arith) (λ j l u. b j (omega arith) u)
    (front_more from line ∙ ap (λ x. x ++ field from line) f ∙ ap (λ x. slots from cs ++ x) (b from (omega arith) (omega arith) ∙ sym (ap slot_text past)) ∙ sym (slots_more from cs))

pub part_field : (j n : ℕ) (line : List ℕ) → n ≡ 10 → take n (drop (j * 10) line) ≡ field j line
unfolding field
part_field j n line e = ap (λ m. take m (drop (j * 10) line)) e

pub field_length : (j : ℕ) (line : List ℕ) → j < 12 → length line ≡ 128 → length (field j line) ≡ 10
unfolding field
field_length j line h l =
    let d = length-drop (j * 10) line in
    length-take-le 10 (drop (j * 10) line) (omega arith)

-- the first k fields are cells
pub record Begun (line : List ℕ) (cs : List Cell) (k : ℕ) : Type 0 where
  pub many : length cs ≡ k
  pub small : Small cs
  pub front : take (k * 10) line ≡ slots k cs

pub begun_none : (line : List ℕ) (cs : List Cell) → cs ≡ [] → Begun line cs 0
unfolding slots
begun_none line cs e = record { many = ap length e; small = subst Small (sym e) tt; front = refl }

small_push : (cs : List Cell) (c : Cell) → Small cs → Short c → Small (cs ++ (c ∷ []))
small_push [] c s h = (h, tt)
small_push (x ∷ xs) c s h = (s.0, small_push xs c s.1 h)

nth_push : (cs : List Cell) (c : Cell) → slice_get (cs ++ (c ∷ [])) (length cs) ≡ Some c
nth_push [] c = refl
nth_push (x ∷ xs) c = nth_push xs c

nth_append : (cs ds : List Cell) (i : ℕ) → i < length cs → slice_get cs i ≡ slice_get (cs ++ ds) i
nth_append [] ds i h = absurd (omega arith)
nth_append (x ∷ xs) ds zero h = refl
nth_append (x ∷ xs) ds (suc i) h = nth_append xs ds i (omega arith)

pub begun_more : (line : List ℕ) (cs es : List Cell) (c : Cell) (k : ℕ) → Begun line cs k → es ≡ cs ++ (c ∷ []) → field k line ≡ cell_text c → Short c → Begun line es (k + 1)
begun_more line cs es c k b e f h =
    let m = b.many in
    let n : slice_get (cs ++ (c ∷ [])) k ≡ Some c = ap (slice_get (cs ++ (c ∷ []))) (sym m) ∙ nth_push cs c in
    let same : slots k cs ≡ slots k (cs ++ (c ∷ [])) = slots_nth k cs (cs ++ (c ∷ [])) (λ i l. nth_append cs (c ∷ []) i (omega arith)) in
    subst (λ t. Begun line t (k + 1)) (sym e) (record {
      many = let l = length-append cs (c ∷ []) in omega arith;
      small = small_push cs c b.small h;
      front = front_more k line ∙ ap (λ t. t ++ field k line) (b.front ∙ same) ∙ ap (λ t. slots k (cs ++ (c ∷ [])) ++ t) (f ∙ sym (ap slot_text n)) ∙ sym (slots_more k (cs ++ (c ∷ [])));
    })

pub scanned_from : (line : List ℕ) (cs : List Cell) (k : ℕ) → Begun line cs k → k ≤ 12 → (k < 12 → (c : Cell) → Short c → field k line ≡ cell_text c → ⊥) → Scanned line cs
scanned_from line cs k b h stop =
    let m = b.many in
    record {
      few = omega arith;
      small = b.small;
      front = ap (λ v. take (v * 10) line) m ∙ b.front ∙ ap (λ v. slots v cs) (sym m);
      stops = λ l c s e. stop (omega arith) c s (ap (λ v. field v line) (sym m) ∙ e);
    }

-- writing cell after cell
pub put_slot : (line : List ℕ) (cs : List Cell) (j n : ℕ) (ys : List ℕ) → j * 10 ≤ length line → Small cs → take (j * 10) line ≡ slots j cs → ys ≡ slot_text (slice_get cs j) → take ((j + 1) * 10) (put_mid (j * 10) n line ys) ≡ slots (j + 1) cs
put_slot line cs j n ys h s e y =
    let l : length ys ≡ 10 = ap length y ∙ slot_length (slice_get cs j) (little cs j s) in
    take-put_mid (j * 10) n line ys ((j + 1) * 10) (omega arith) h ∙ ap (λ t. t ++ ys) e ∙ ap (λ t. slots j cs ++ t) y ∙ sym (slots_more j cs)

pub put_tail : (line : List ℕ) (cs : List Cell) (n : ℕ) (ys : List ℕ) → length line ≡ 128 → n ≤ 999999 → take 120 line ≡ slots 12 cs → ys ≡ columns 7 n → set (put_mid 120 7 line ys) 127 10 ≡ shown cs n
unfolding shown
put_tail line cs n ys l h e y =
    let ly : length ys ≡ 7 = ap length y ∙ columns_length 7 n (omega arith) (omega arith) (omega arith) in
    let lt : length (take 120 line) ≡ 120 = length-take-le 120 line (omega arith) in
    let d : drop 7 (drop 120 line) ≡ get_or line 127 0 ∷ [] = drop-drop 7 120 line ∙ drop_more line 127 0 (omega arith) ∙ ap (λ t. get_or line 127 0 ∷ t) (drop_all 128 line (omega arith)) in
    ap (λ t. set (take 120 line ++ (ys ++ t)) 127 10) d
    ∙ ap (λ t. set t 127 10) (sym (append_assoc (take 120 line) ys (get_or line 127 0 ∷ [])))
    ∙ set_at (take 120 line ++ ys) (get_or line 127 0) [] 10 127 (length-append (take 120 line) ys ∙ omega arith)
    ∙ append_assoc (take 120 line) ys (10 ∷ [])
    ∙ ap (λ t. t ++ (ys ++ (10 ∷ []))) e
    ∙ ap (λ t. slots 12 cs ++ (t ++ (10 ∷ []))) y

pub blank_written : (s : List ℕ) → s ≡ blank 128 → set s 127 10 ≡ blank_line
unfolding blank_line
blank_written s e = ap (λ t. set t 127 10) e

-- the first j cells of a line are written, and those after them are blank
pub record Begins (line : List ℕ) (cs : List Cell) (j : ℕ) : Type 0 where
  pub front : take (j * 10) line ≡ slots j cs
  pub rest : Blanks line j 12

pub begins_blank : (line : List ℕ) (cs : List Cell) → line ≡ blank 128 → Begins line cs 0
unfolding slots field
begins_blank line cs e = record {
  front = refl;
  rest = λ j lo hi. ap (λ l. take 10 (drop (j * 10) l)) e ∙ ap (take 10) (drop-replicate (j * 10) 128 32) ∙ take-replicate 10 (128 - j * 10) 32 (omega arith);
}

pub begins_all : (line : List ℕ) (cs : List Cell) (j : ℕ) → Begins line cs j → length cs ≤ j → j ≤ 12 → take 120 line ≡ slots 12 cs
begins_all line cs j b h few = blanks_front (12 - j) line cs j 12 (omega arith) h b.rest b.front

field_past : (line ys : List ℕ) (j n i : ℕ) → j * 10 + n ≤ i * 10 → j * 10 ≤ length line → length ys ≡ n → field i (put_mid (j * 10) n line ys) ≡ field i line
unfolding field
field_past line ys j n i h l e = ap (take 10) (drop-put_mid (j * 10) n line ys (i * 10) h l e)

module _ (line : List ℕ) (cs : List Cell) (j n : ℕ) (long : length line ≡ 128) (ten : n ≡ 10) (low : j < 12) (storable : Storable cs) (begins : Begins line cs j) where
  slot_ten : length (take n (drop (j * 10) line)) ≡ 10
  slot_ten = ap length (part_field j n line ten) ∙ field_length j line low long

  pub begins_more : (d : Cell) (ys : List ℕ) (r : Result (Unit {0}) NoRoom) → j < length cs
      → WritesCell (get_or cs j d) (take n (drop (j * 10) line)) ys r → Begins (put_mid (j * 10) n line ys) cs (j + 1)
  begins_more d ys (Ok u) h w =
      let is : ys ≡ slot_text (slice_get cs j) = w.0 ∙ ap slot_text (sym (slice_get-get_or cs j d h)) in
      let l : length ys ≡ 10 = ap length is ∙ slot_length (slice_get cs j) (little cs j storable.short) in
      record {
        front = put_slot line cs j n ys (omega arith) storable.short begins.front is;
        rest = λ i lo hi. field_past line ys j n i (omega arith) (omega arith) (omega arith) ∙ begins.rest i (omega arith) hi;
      }
  begins_more d ys (Err f) h w = absurd (w.1 (All-get_or Short cs j d h storable.short) slot_ten)

pub count_tail : (line : List ℕ) (cs : List Cell) (n : ℕ) (ys : List ℕ) (r : Result (Unit {0}) NoRoom) → length line ≡ 128 → n ≤ 999999 → take 120 line ≡ slots 12 cs
    → Writes (decimal n) (take 7 (drop 120 line)) ys r → set (put_mid 120 7 line ys) 127 10 ≡ shown cs n
unfolding columns
count_tail line cs n ys (Ok u) l h front w =
    let d = length-drop 120 line in
    let s : length (take 7 (drop 120 line)) ≡ 7 = length-take-le 7 (drop 120 line) (omega arith) in
    put_tail line cs n ys l h front (w.0 ∙ ap (λ m. columns m n) s)
count_tail line cs n ys (Err f) l h front w =
    let d = length-drop 120 line in
    let s : length (take 7 (drop 120 line)) ≡ 7 = length-take-le 7 (drop 120 line) (omega arith) in
    let m = length-decimal-le 7 n (omega arith) (omega arith) (omega arith) in
    let v = w.1 in
    absurd (omega arith)
