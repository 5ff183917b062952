-- An image is the text of its places, and of no others.
use Rattle.std.proofs.Common.{◌≡◌, ℕ, zero, suc, ◌+◌, ◌*◌, ◌<◌, true, false, List, [], ◌∷◌, ◌++◌, length, get_or, take, drop, Some, None, sym, refl, ap, ◌∙◌, subst, ⊎_elim, arith}
use Rattle.std.specs.List.{AllByRecursion}
use Rattle.std.proofs.ByRecursion.{All-get_or, All-from_get_or}
use Rattle.std.proofs.lemmas.List.{length-append, length-drop, take_at, drop_at, drop-drop, take-append-drop, same_lists, nil_from_length}
use Rattle.std.proofs.lemmas.Bool.{both_ways}
use Rattle.refusals.proofs.Places.{first_improper}
use Rattle.terms.specs.declared.cell.Cell.{Cell}
use Rattle.stores.specs.declared.fault.StoreFault.{StoreFault}
use Rattle.stores.specs.Places.{Place, row_at, taken, hits, held, Apart}
use Rattle.terms.specs.Rows.{Storable, same_self}
use Rattle.stores.proofs.Writes.{none_hits, apart_parts}
use Rattle.image.specs.Texts.{Proper, text, fields, LineFields}
use Rattle.image.specs.Meaning.{line, lines_in, meaning, entries, Sound}
use Rattle.image.specs.Open.{Stops}
use Rattle.image.specs.Laws.{texts, ImageOf, Exactly}
use Rattle.image.proofs.Decoding.{text_length}
use Rattle.image.proofs.Opening.{hit_parts}
use Rattle.image.proofs.Meanings.{entries_length, entries_at, shows_from, meaning_from}

-- line after line
line_first : (s rest : List ℕ) → length s ≡ 128 → line 0 (s ++ rest) ≡ s
unfolding line
line_first s rest l = take_at s rest 128 l

line_next : (k : ℕ) (s rest : List ℕ) → length s ≡ 128 → line (suc k) (s ++ rest) ≡ line k rest
unfolding line
line_next k s rest l =
    let e : suc k * 128 ≡ 128 + k * 128 = omega arith in
    ap (λ m. take 128 (drop m (s ++ rest))) e ∙ ap (take 128) (sym (drop-drop (k * 128) 128 (s ++ rest))) ∙ ap (λ t. take 128 (drop (k * 128) t)) (drop_at s rest 128 l)

line_drop : (k : ℕ) (xs : List ℕ) → line k (drop 128 xs) ≡ line (suc k) xs
unfolding line
line_drop k xs =
    let e : 128 + k * 128 ≡ suc k * 128 = omega arith in
    ap (take 128) (drop-drop (k * 128) 128 xs) ∙ ap (λ m. take 128 (drop m xs)) e

line_take : (xs : List ℕ) → line 0 xs ≡ take 128 xs
unfolding line
line_take xs = refl

-- lists of whole lines are the same where their lines are
same_lines : (n : ℕ) (xs ys : List ℕ) → length xs ≡ n * 128 → length ys ≡ n * 128 → ((k : ℕ) → k < n → line k xs ≡ line k ys) → xs ≡ ys
same_lines zero xs ys lx ly f = nil_from_length xs (omega arith) ∙ sym (nil_from_length ys (omega arith))
same_lines (suc n) xs ys lx ly f =
    let dx = length-drop 128 xs in
    let dy = length-drop 128 ys in
    let head : take 128 xs ≡ take 128 ys = sym (line_take xs) ∙ f 0 (omega arith) ∙ line_take ys in
    let rest = same_lines n (drop 128 xs) (drop 128 ys) (omega arith) (omega arith) (λ k h. line_drop k xs ∙ f (suc k) (omega arith) ∙ sym (line_drop k ys)) in
    sym (take-append-drop 128 xs) ∙ ap (λ t. t ++ drop 128 xs) head ∙ ap (λ t. take 128 ys ++ t) rest ∙ take-append-drop 128 ys

hits_row : (o : Place) → taken o ≡ true → hits o (row_at o) ≡ true
hits_row None t = absurd (both_ways false refl t)
hits_row (Some x) t = same_self x.0

-- no two places hold one row
apart_pair : (ps : List Place) (q : List Cell) (j k : ℕ) (d : Place) → Apart (held ps) → j < k → k < length ps → hits (get_or ps j d) q ≡ true → hits (get_or ps k d) q ≡ true → ⊥
apart_pair [] q j k d a jk kl hj hk = omega arith
apart_pair (p ∷ ps) q j zero d a jk kl hj hk = omega arith
apart_pair (p ∷ ps) q zero (suc k) d a jk kl hj hk =
    let h = hit_parts p q hj in
    both_ways (hits (get_or ps k d) q) (subst (λ r. hits (get_or ps k d) r ≡ false) h.1 (none_hits ps (row_at p) k d (omega arith) ((apart_parts p ps a).0 h.0))) hk
apart_pair (p ∷ ps) q (suc j) (suc k) d a jk kl hj hk = apart_pair ps q j k d (apart_parts p ps a).1 (omega arith) (omega arith) hj hk

module _ (Row : List Cell → Type 0) (fit : (cs : List Cell) → Row cs → Storable cs) where
  texts_length : (ps : List Place) → AllByRecursion (Proper Row) ps → length (texts ps) ≡ length ps * 128
  unfolding texts
  texts_length [] a = refl
  texts_length (p ∷ ps) a =
      let l = text_length Row fit p a.0 in
      let m = texts_length ps a.1 in
      length-append (text p) (texts ps) ∙ omega arith

  line_texts : (ps : List Place) → AllByRecursion (Proper Row) ps → (k : ℕ) (d : Place) → k < length ps → line k (texts ps) ≡ text (get_or ps k d)
  unfolding texts
  line_texts [] a k d h = absurd (omega arith)
  line_texts (p ∷ ps) a zero d h = line_first (text p) (texts ps) (text_length Row fit p a.0)
  line_texts (p ∷ ps) a (suc k) d h = line_next k (text p) (texts ps) (text_length Row fit p a.0) ∙ line_texts ps a.1 k d (omega arith)

  module _ (ps : List Place) (xs : List ℕ) (i : ImageOf Row ps xs) where
    long : length xs ≡ length ps * 128
    long = ap length i.bytes ∙ texts_length ps i.proper

    many : lines_in xs ≡ length ps
    many = let l = long in omega arith

    line_is_text : (k : ℕ) (d : Place) → k < length ps → line k xs ≡ text (get_or ps k d)
    line_is_text k d h = ap (line k) i.bytes ∙ line_texts ps i.proper k d h

    place_proper : (k : ℕ) (d : Place) → k < length ps → Proper Row (get_or ps k d)
    place_proper k d h = All-get_or (Proper Row) ps k d h i.proper

    pub reads : entries xs ≡ ps
    reads =
        let l = entries_length xs in
        let m = many in
        same_lists (entries xs) ps (omega arith)
        (λ k d h.
        entries_at xs k d (omega arith) ∙ meaning_from Row fit (line k xs) (get_or ps k d) (place_proper k d (omega arith)) (line_is_text k d (omega arith)))

    pub sound : Sound Row xs
    sound =
        let l = long in
        let m = many in
        let a = i.allowed in
        record {
          whole = omega arith;
          allowed = (omega arith, omega arith);
          shows = λ k h. shows_from Row fit (line k xs) (get_or ps k None) (place_proper k None (omega arith)) (line_is_text k None (omega arith));
          apart = subst (λ qs. Apart (held qs)) (sym reads) i.apart;
        }

  pub image_of : (xs : List ℕ) → Sound Row xs → ImageOf Row (entries xs) xs
  image_of xs s =
      let l = entries_length xs in
      let w = s.whole in
      let a = s.allowed in
      let all : AllByRecursion (Proper Row) (entries xs) = All-from_get_or (Proper Row) (entries xs) None (λ k h. subst (Proper Row) (sym (entries_at xs k None (omega arith))) (s.shows k (omega arith)).good) in
      record {
        allowed = (omega arith, omega arith);
        proper = all;
        apart = s.apart;
        bytes = same_lines (lines_in xs) xs (texts (entries xs)) w (texts_length (entries xs) all ∙ ap (λ n. n * 128) l)
            (λ k h. (s.shows k h).same ∙ ap text (sym (entries_at xs k None h)) ∙ sym (line_texts (entries xs) all k None (omega arith)));
      }

  pub refused : (xs : List ℕ) (f : StoreFault) → Stops Row xs f → Sound Row xs → ⊥
  refused xs f t s =
      let k = t.at in
      let w = t.within in
      let l = entries_length xs in
      ⊎_elim
      (λ b. first_improper (LineFields Row) (fields (line k xs)) b.0 b.2 (record { place = meaning (line k xs); proper = (s.shows k w).good; same = ap fields (s.shows k w).same }))
      (λ a.
      let j = a.2.0 in
      let h = a.2.1 in
      let r = a.2.2 in
      let q = row_at (meaning (line k xs)) in
      apart_pair (entries xs) q j k None s.apart h (omega arith)
      (ap (λ o. hits o q) (entries_at xs j None (omega arith)) ∙ ap (hits (meaning (line j xs))) (sym r.row) ∙ hits_row (meaning (line j xs)) r.first)
      (ap (λ o. hits o q) (entries_at xs k None (omega arith)) ∙ hits_row (meaning (line k xs)) r.second))
      t.here

  pub exactly : Exactly Row
  exactly = record { written = sound; read = reads; is = image_of; refused = refused }
