-- A line's fields and an image's lines, as arrays.
use Rattle.std.proofs.Common.{subst, cond, ◌≡◌, ℕ, zero, suc, ◌+◌, ◌-◌, ◌*◌, ◌/◌, ◌<◌, ◌≤◌, true, false, not, Bool, List, [], ◌∷◌, map, length, get_or, take, drop, Some, None, count_by, Decides, MatchOption, Option, sym, refl, ap, ◌∙◌, arith, ◌≢◌}
use Rattle.std.proofs.Math.Nat.{suc-mul, zero-mul}
use Rattle.std.specs.List.{All, AllWithin, HoldsAt, AllByRecursion, filter, slice_get}
use Rattle.std.proofs.ByRecursion.{All-from_get_or}
use Rattle.std.specs.Simd.{first_chunks}
use Rattle.std.proofs.lemmas.List.{drop-drop, get_or-map, get_or-drop, get_or-take, length-map, length-drop, length-take-le, take_all, same_lists}
use Rattle.columns.specs.Columns.{blank}
use Rattle.stores.specs.Places.{Place, taken, held}
use Rattle.image.specs.Lines.{field, Blanks, Marked}
use Rattle.image.specs.Meaning.{line, lines_in, meaning, entries, NoKey, AtKey, FirstFree}
use Rattle.image.proofs.Meanings.{entries_length, entries_at, head_is, free_from, taken_from, count_all}

get_or-first_chunks : {X : Type 0} (n c : ℕ) (xs : List X) (k : ℕ) (d : List X) → k < c → get_or (first_chunks n c xs) k d ≡ take n (drop (k * n) xs)
get_or-first_chunks n zero xs k d h = absurd (omega arith)
get_or-first_chunks n (suc c) xs zero d h = ap (λ i. take n (drop i xs)) (sym (zero-mul n))
get_or-first_chunks n (suc c) xs (suc k) d h =
    let e : n + k * n ≡ suc k * n = omega (arith, suc-mul k n) in
    get_or-first_chunks n c (drop n xs) k d (omega arith) ∙ ap (take n) (drop-drop (k * n) n xs) ∙ ap (λ i. take n (drop i xs)) e

length-first_chunks : {X : Type 0} (n c : ℕ) (xs : List X) → length (first_chunks n c xs) ≡ c
length-first_chunks n zero xs = refl
length-first_chunks n (suc c) xs = ap suc (length-first_chunks n c (drop n xs))

-- the fields of a line
module _ (line : List ℕ) (fields : List (List ℕ)) (are : fields ≡ first_chunks 10 (length line / 10) line) where
  pub field_of : (j : ℕ) (d : List ℕ) → j < length line / 10 → get_or fields j d ≡ field j line
  unfolding field
  field_of j d h = ap (λ fs. get_or fs j d) are ∙ get_or-first_chunks 10 (length line / 10) line j d h

  -- the first that is not blank, from one on
  pub first_marked : (from : ℕ) → from ≤ 12 → length line ≡ 128 → length fields ≡ length line / 10 → (o : Option ℕ)
      → MatchOption o (AllWithin (λ f. f ≡ blank 10) (drop from fields) 0 (length (drop from fields))) (λ i. (i < length (drop from fields)) × HoldsAt (λ f. f ≡ blank 10 → ⊥) (drop from fields) i × AllWithin (λ f. f ≡ blank 10) (drop from fields) 0 i)
      → MatchOption o (Blanks line from 12) (λ i. Marked line from (from + i))
  first_marked from few long many None all = λ j lo hi.
      let d = length-drop from fields in
      let e : from + (j - from) ≡ j = omega arith in
      sym (field_of j [] (omega arith)) ∙ ap (λ i. get_or fields i []) (sym e) ∙ sym (get_or-drop from fields (j - from) []) ∙ all (j - from) [] (omega arith) (omega arith)
  first_marked from few long many (Some i) at =
      let d = length-drop from fields in
      let w = at.0 in
      let here : get_or (drop from fields) i [] ≡ field (from + i) line = get_or-drop from fields i [] ∙ field_of (from + i) [] (omega arith) in
      record {
        above = omega arith;
        within = omega arith;
        before = λ j lo hi.
            let e : from + (j - from) ≡ j = omega arith in
            sym (field_of j [] (omega arith)) ∙ ap (λ i. get_or fields i []) (sym e) ∙ sym (get_or-drop from fields (j - from) []) ∙ at.2 (j - from) [] (omega arith) (omega arith);
        here = λ e. at.1 [] (here ∙ e);
      }

-- line n of those that have a row
abbrev pub NthTaken : (List ℕ → Type 0) → List Place → ℕ → Option (List ℕ) → Type 0
NthTaken P ps n o = MatchOption o (slice_get (held ps) n ≡ None) (λ l. P l × (meaning l ≡ slice_get (held ps) n))

abbrev pub taken_line : List ℕ → Bool
taken_line l = taken (meaning l)

nth_taken : (P : List ℕ → Type 0) (ls : List (List ℕ)) (n : ℕ) → AllByRecursion P ls → (o : Option (List ℕ)) → o ≡ slice_get (filter taken_line ls) n → NthTaken P (map meaning ls) n o
nth_taken P [] n a None e = refl
nth_taken P [] n a (Some l) e = absurd (let z : ◌≡◌ {A = ℕ} 0 1 = cc in omega arith)
nth_taken P (l ∷ ls) n a o e = go (meaning l) refl n e (λ m f. nth_taken P ls m a.1 o f)
  where
    go : (p : Place) → meaning l ≡ p → (n : ℕ) → o ≡ slice_get (cond (taken p) (l ∷ filter taken_line ls) (filter taken_line ls)) n
        → ((m : ℕ) → o ≡ slice_get (filter taken_line ls) m → NthTaken P (map meaning ls) m o) → NthTaken P (p ∷ map meaning ls) n o
    go None i n e rest = rest n e
    go (Some x) i zero e rest = subst (NthTaken P (Some x ∷ map meaning ls) 0) (sym e) (a.0, i)
    go (Some x) i (suc n) e rest = rest n e

-- the lines of an image
module _ (xs : List ℕ) (lines : List (List ℕ)) (are : lines ≡ first_chunks 128 (lines_in xs) xs) where
  pub line_of : (k : ℕ) (d : List ℕ) → k < lines_in xs → get_or lines k d ≡ line k xs
  unfolding line
  line_of k d h = ap (λ ls. get_or ls k d) are ∙ get_or-first_chunks 128 (lines_in xs) xs k d h

  module _ (many : length lines ≡ lines_in xs) where
    pub lines_mean : map meaning lines ≡ entries xs
    lines_mean =
        let l = entries_length xs in
        let m = length-map lines meaning in
        same_lists (map meaning lines) (entries xs) (omega arith)
        (λ k d h. get_or-map meaning lines k [] d (omega arith) ∙ ap meaning (line_of k [] (omega arith)) ∙ sym (entries_at xs k d (omega arith)))

    -- the first that is free
    pub first_free : (o : Option ℕ)
        → MatchOption o (AllWithin (λ l. taken (meaning l) ≡ true) lines 0 (length lines)) (λ i. (i < length lines) × HoldsAt (λ l. taken (meaning l) ≡ false) lines i × AllWithin (λ l. taken (meaning l) ≡ true) lines 0 i)
        → MatchOption o (count_by taken (entries xs) ≡ length (entries xs)) (λ k. FirstFree xs k)
    first_free None all =
        let l = entries_length xs in
        count_all (entries xs) (λ j d h. ap taken (entries_at xs j d (omega arith) ∙ ap meaning (sym (line_of j [] (omega arith)))) ∙ all j [] (omega arith) (omega arith))
    first_free (Some i) at =
        let w = at.0 in
        record {
          within = omega arith;
          here = ap (λ l. taken (meaning l)) (sym (line_of i [] (omega arith))) ∙ at.1 [];
          before = λ j h. ap (λ l. taken (meaning l)) (sym (line_of j [] (omega arith))) ∙ at.2 j [] (omega arith) h;
        }

pub nth_row : (xs : List ℕ) (P : List ℕ → Type 0) → ((k : ℕ) → k < lines_in xs → P (line k xs)) → (n : ℕ) (o : Option (List ℕ)) → o ≡ slice_get (filter taken_line (first_chunks 128 (lines_in xs) xs)) n → NthTaken P (entries xs) n o
nth_row xs P f n o e =
    let lines = first_chunks 128 (lines_in xs) xs in
    let many = length-first_chunks 128 (lines_in xs) xs in
    subst (λ ps. NthTaken P ps n o) (lines_mean xs lines refl many)
    (nth_taken P lines n (All-from_get_or P lines [] (λ k h. subst P (sym (line_of xs lines refl k [] (omega arith))) (f k (omega arith)))) o e)

-- whether a line has a row, by its first cell
pub taken_by : (s : List ℕ) (b : Bool) → length s ≡ 128 → Decides b (take 10 s ≡ blank (length (take 10 s))) → not b ≡ taken (meaning s)
taken_by s true l d = let n : length (take 10 s) ≡ 10 = length-take-le 10 s (omega arith) in sym (free_from s (sym (head_is s) ∙ d.0 refl ∙ ap blank n))
taken_by s false l d =
    let n : length (take 10 s) ≡ 10 = length-take-le 10 s (omega arith) in
    sym (taken_from s (λ e. absurd (let q : ◌≡◌ {A = Bool} false true = d.1 (head_is s ∙ e ∙ ap blank (sym n)) in let z : ◌≡◌ {A = ℕ} 0 1 = cc in omega arith)))

pub all_lines : (xs : List ℕ) → take (lines_in xs) (first_chunks 128 (lines_in xs) xs) ≡ first_chunks 128 (lines_in xs) xs
all_lines xs = let l = length-first_chunks 128 (lines_in xs) xs in take_all (lines_in xs) (first_chunks 128 (lines_in xs) xs) (omega arith)

-- a line, of the first n, that begins with these bytes
pub front_at : (xs front : List ℕ) (n : ℕ) (lines : List (List ℕ)) → lines ≡ take n (first_chunks 128 (lines_in xs) xs) → n ≤ lines_in xs → (o : Option ℕ)
    → MatchOption o (All (λ l. take 120 l ≢ front) lines) (λ k. (k < length lines) × HoldsAt (λ l. take 120 l ≡ front) lines k) → MatchOption o (NoKey xs front n) (λ k. AtKey xs front n k)
front_at xs front n lines are few o found = go o found
  where
    many : length lines ≡ n
    many = let l = length-first_chunks 128 (lines_in xs) xs in ap length are ∙ length-take-le n (first_chunks 128 (lines_in xs) xs) (omega arith)

    at : (j : ℕ) → j < n → get_or lines j [] ≡ line j xs
    at j h = ap (λ ls. get_or ls j []) are ∙ get_or-take n (first_chunks 128 (lines_in xs) xs) j [] h ∙ line_of xs (first_chunks 128 (lines_in xs) xs) refl j [] (omega arith)

    go : (o : Option ℕ) → MatchOption o (All (λ l. take 120 l ≢ front) lines) (λ k. (k < length lines) × HoldsAt (λ l. take 120 l ≡ front) lines k) → MatchOption o (NoKey xs front n) (λ k. AtKey xs front n k)
    go None none = λ j h e. let m = many in none j [] (omega arith) (ap (take 120) (at j h) ∙ e)
    go (Some k) f = let m = many in let w = f.0 in record { within = omega arith; here = ap (take 120) (sym (at k (omega arith))) ∙ f.1 [] }
