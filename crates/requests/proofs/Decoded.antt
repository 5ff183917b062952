-- The fields of a line that shows what is asked, and that no line shows two things.
use Rattle.std.proofs.Common.{◌≡◌, ℕ, ◌^◌, ◌<◌, List, ◌∷◌, ◌++◌, map, length, get_or, drop, Some, None, Option, sym, refl, ap, ◌∙◌, arith}
use Rattle.std.specs.Int.Digits.{number_from_digits}
use Rattle.std.specs.List.{flat_map, AllByRecursion}
use Rattle.std.proofs.lemmas.List.{drop-drop, get_or-drop}
use Rattle.serial.specs.History.{Call.begin, Call.reserve, Call.look, Call.survey, Call.write, Call.strike, Call.commit, Call.abandon}
use Rattle.terms.specs.declared.cell.Cell.{Cell}
use Rattle.columns.specs.Columns.{columns, cell_text, Short}
use Rattle.columns.specs.Steps.{worth}
use Rattle.columns.proofs.Numbers.{columns_length, reads_back}
use Rattle.requests.specs.declared.word.Word.{Word}
use Rattle.requests.specs.declared.word.Word.TheVariants.{Begin, Reserve, Look, Survey, Write, Strike, Commit, Abandon, Tally}
use Rattle.requests.specs.Lines.{Alike, front, field}
use Rattle.requests.specs.Layout.{Ask, Fields, fields, shown, word_text, Laid, Shows}
use Rattle.requests.specs.Fields.{Room}
use Rattle.requests.specs.Steps.{ask_of, guessed}
use Rattle.requests.proofs.Alike.{get_d_front, first_columns, next_columns, alike_drop}
use Rattle.requests.proofs.Groups.{cells_room, groups_room, groups_same, split_back}

pub record Fits (f : Fields) : Type 0 where
  pub first : Room f.first
  pub second : Room f.second
  pub groups : AllByRecursion Short f.groups

pub fits : (a : Ask) → Laid a → Fits (fields a)
fits None l = record { first = tt; second = tt; groups = tt }
fits (Some (begin planner)) l = record { first = l; second = tt; groups = tt }
fits (Some (reserve t right d)) l = record { first = l.0; second = tt; groups = groups_room d l.2 l.3 }
fits (Some (look t cells)) l = record { first = l.0; second = tt; groups = cells_room cells l.1 }
fits (Some (survey t n)) l = record { first = l.0; second = l.1; groups = tt }
fits (Some (write t cells k)) l = record { first = l.0; second = l.2; groups = cells_room cells l.1 }
fits (Some (strike t cells)) l = record { first = l.0; second = tt; groups = cells_room cells l.1 }
fits (Some (commit t)) l = record { first = l; second = tt; groups = tt }
fits (Some (abandon t)) l = record { first = l; second = tt; groups = tt }

word_length : (w : Word) → length (word_text w) ≡ 8
unfolding word_text
word_length Begin = refl
word_length Reserve = refl
word_length Look = refl
word_length Survey = refl
word_length Write = refl
word_length Strike = refl
word_length Commit = refl
word_length Abandon = refl
word_length Tally = refl

field_length : (n : Option ℕ) → Room n → length (field 7 n) ≡ 7
field_length None h = refl
field_length (Some n) h = columns_length 7 n (omega arith) (omega arith) h

-- what stands in the columns of a line
pub record ColumnsOf (line : List ℕ) (f : Fields) : Type 0 where
  pub word : front 8 line ≡ word_text f.word
  pub first : front 7 (drop 8 line) ≡ field 7 f.first
  pub second : front 7 (drop 15 line) ≡ field 7 f.second
  pub right : get_or line 22 32 ≡ f.right
  pub groups : Alike (drop 23 line) (flat_map cell_text f.groups)

pub columns_of : (line : List ℕ) (f : Fields) → Fits f → Alike line (shown f) → ColumnsOf line f
columns_of line f h e =
    let G : List ℕ = flat_map cell_text f.groups in
    let S : List ℕ = field 7 f.second in
    let F : List ℕ = field 7 f.first in
    let W : List ℕ = word_text f.word in
    let lf = field_length f.first h.first in
    let ls = field_length f.second h.second in
    let lw = word_length f.word in
    let e1 : Alike (drop 8 line) (F ++ (S ++ (f.right ∷ G))) = next_columns 8 line W (F ++ (S ++ (f.right ∷ G))) lw e in
    let e2 : Alike (drop 15 line) (S ++ (f.right ∷ G)) =
    λ i. sym (ap (λ t. get_or t i 32) (drop-drop 7 8 line)) ∙ next_columns 7 (drop 8 line) F (S ++ (f.right ∷ G)) lf e1 i in
    let e3 : Alike (drop 22 line) (f.right ∷ G) =
    λ i. sym (ap (λ t. get_or t i 32) (drop-drop 7 15 line)) ∙ next_columns 7 (drop 15 line) S (f.right ∷ G) ls e2 i in
    record {
      word = first_columns 8 line W (F ++ (S ++ (f.right ∷ G))) lw e;
      first = first_columns 7 (drop 8 line) F (S ++ (f.right ∷ G)) lf e1;
      second = first_columns 7 (drop 15 line) S (f.right ∷ G) ls e2;
      right = sym (get_or-drop 22 line 0 32) ∙ e3 0;
      groups = λ i. sym (ap (λ t. get_or t i 32) (drop-drop 1 22 line)) ∙ alike_drop 1 (drop 22 line) (f.right ∷ G) e3 i;
    }

-- the number that a field shows, if it shows one
abbrev pub Is : Option ℕ → ℕ → Type 0
Is None m = Unit {0}
Is (Some n) m = m ≡ n

-- the fields say what is asked
pub ask_back : (a : Ask) (m n : ℕ) → Laid a → Is (fields a).first m → Is (fields a).second n → ask_of (fields a).word m n (fields a).right (fields a).groups ≡ a
ask_back None m n l p q = refl
ask_back (Some (begin planner)) m n l p q = ap (λ v. Some (begin v)) p
ask_back (Some (reserve t right d)) m n l p q = let e = split_back d l.2 l.3 in cc
ask_back (Some (look t cells)) m n l p q = ap (λ v. Some (look v cells)) p
ask_back (Some (survey t k)) m n l p q = cc
ask_back (Some (write t cells k)) m n l p q = cc
ask_back (Some (strike t cells)) m n l p q = ap (λ v. Some (strike v cells)) p
ask_back (Some (commit t)) m n l p q = ap (λ v. Some (commit v)) p
ask_back (Some (abandon t)) m n l p q = ap (λ v. Some (abandon v)) p

-- the words differ in their first two letters
pub guessed_back : (w : Word) → guessed (get_or (word_text w) 0 32) (get_or (word_text w) 1 32) ≡ w
unfolding word_text
guessed_back Begin = refl
guessed_back Reserve = refl
guessed_back Look = refl
guessed_back Survey = refl
guessed_back Write = refl
guessed_back Strike = refl
guessed_back Commit = refl
guessed_back Abandon = refl
guessed_back Tally = refl

pub word_same : (v w : Word) → word_text v ≡ word_text w → v ≡ w
word_same v w e = sym (guessed_back v) ∙ ap (λ t. guessed (get_or t 0 32) (get_or t 1 32)) e ∙ guessed_back w

field_is : (n : Option ℕ) (part : List ℕ) → Room n → part ≡ field 7 n → Is n (number_from_digits 10 (map worth part))
field_is None part h e = tt
field_is (Some n) part h e = ap (λ t. number_from_digits 10 (map worth t)) e ∙ reads_back 7 n (omega arith)

pub one_ask : (line : List ℕ) (a b : Ask) → Shows line a → Shows line b → a ≡ b
one_ask line a b s t =
    let fa = fits a s.0 in
    let fb = fits b t.0 in
    let ca = columns_of line (fields a) fa s.1 in
    let cb = columns_of line (fields b) fb t.1 in
    let m = number_from_digits 10 (map worth (front 7 (drop 8 line))) in
    let n = number_from_digits 10 (map worth (front 7 (drop 15 line))) in
    let ea : ask_of (fields a).word m n (fields a).right (fields a).groups ≡ a =
    ask_back a m n s.0 (field_is (fields a).first _ fa.first ca.first) (field_is (fields a).second _ fa.second ca.second) in
    let eb : ask_of (fields b).word m n (fields b).right (fields b).groups ≡ b =
    ask_back b m n t.0 (field_is (fields b).first _ fb.first cb.first) (field_is (fields b).second _ fb.second cb.second) in
    let w : (fields a).word ≡ (fields b).word = word_same (fields a).word (fields b).word (sym ca.word ∙ cb.word) in
    let r : (fields a).right ≡ (fields b).right = sym ca.right ∙ cb.right in
    let g : (fields a).groups ≡ (fields b).groups =
    groups_same (fields a).groups (fields b).groups fa.groups fb.groups (λ i. sym (ca.groups i) ∙ cb.groups i) in
    sym ea ∙ ap (λ v. ask_of v m n (fields a).right (fields a).groups) w ∙ ap (λ v. ask_of (fields b).word m n v (fields a).groups) r
    ∙ ap (ask_of (fields b).word m n (fields b).right) g ∙ eb

is_number : (o : Option ℕ) (part : List ℕ) (m : ℕ) → Room o → part ≡ field 7 o → ((k : ℕ) → k < 10 ^ 7 → part ≡ columns 7 k → m ≡ k) → Is o m
is_number None part m h e reads = tt
is_number (Some n) part m h e reads = reads n h e

-- what is read of a line that shows what is asked
pub asked_back : (line : List ℕ) (w : Word) (m n r : ℕ) (gs : List Cell) → w ≡ guessed (get_or line 0 32) (get_or line 1 32)
    → ((k : ℕ) → k < 10 ^ 7 → front 7 (drop 8 line) ≡ columns 7 k → m ≡ k)
    → ((k : ℕ) → k < 10 ^ 7 → front 7 (drop 15 line) ≡ columns 7 k → n ≡ k)
    → r ≡ get_or line 22 32
    → ((hs : List Cell) → AllByRecursion Short hs → Alike (drop 23 line) (flat_map cell_text hs) → gs ≡ hs)
    → (a : Ask) → Shows line a → ask_of w m n r gs ≡ a
asked_back line w m n r gs word first second right groups a s =
    let f = fits a s.0 in
    let c = columns_of line (fields a) f s.1 in
    let ew : w ≡ (fields a).word =
    word
    ∙ ap (λ b. guessed b (get_or line 1 32)) (sym (get_d_front 8 line 0 (omega arith)))
    ∙ ap (guessed (get_or (front 8 line) 0 32)) (sym (get_d_front 8 line 1 (omega arith)))
    ∙ ap (λ t. guessed (get_or t 0 32) (get_or t 1 32)) c.word
    ∙ guessed_back (fields a).word in
    let er : r ≡ (fields a).right = right ∙ c.right in
    let eg : gs ≡ (fields a).groups = groups (fields a).groups f.groups c.groups in
    ap (λ v. ask_of v m n r gs) ew ∙ ap (λ v. ask_of (fields a).word m n v gs) er ∙ ap (ask_of (fields a).word m n (fields a).right) eg
    ∙ ask_back a m n s.0 (is_number (fields a).first _ m f.first c.first first) (is_number (fields a).second _ n f.second c.second second)
