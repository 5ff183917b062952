-- The lines of an image, one line more.
use Rattle.std.proofs.Common.{◌≡◌, ℕ, zero, suc, ◌<◌, ◌≤◌, Bool, true, false, cond, not, List, [], ◌∷◌, ◌++◌, length, get_or, take, is_some, Some, None, Ok, Err, MatchOption, MatchResult, Option, Result, inr, sym, refl, ap, ◌∙◌, subst, ⊎_elim, add-one, arith, ◌≢◌}
use Rattle.std.proofs.lemmas.List.{append-nil, length-take-le, get_or-take, take_more, take_all}
use Rattle.std.proofs.lemmas.Bool.{cases_Bool, cond-false, both_ways, and_parts, and_from, not-true}
use Rattle.std.specs.Result.{IsErrAnd}
use Rattle.std.proofs.lemmas.Result.{err_from_is_err_and}
use Rattle.kinds.specs.Meaning.{Meaning, Sound as KindSound}
use Rattle.terms.specs.declared.cell.Cell.{Cell}
use Rattle.terms.specs.Proper.{Arities, RowCells}
use Rattle.stores.specs.declared.entry.Entry.{Entry}
use Rattle.stores.specs.declared.fault.StoreFault.TheVariants.{Again}
use Rattle.stores.specs.Table.{holding_of}
use Rattle.stores.specs.Places.{Holding, Place, row_at, taken, hits, held, look, Apart}
use Rattle.terms.specs.Equality.{cells_eq}
use Rattle.terms.specs.Rows.{Storable, same_true, same_self}
use Rattle.stores.proofs.Writes.{none_find}
use Rattle.image.specs.Lines.{slots}
use Rattle.image.specs.Texts.{Proper, text, Decoded}
use Rattle.image.specs.Meaning.{line, lines_in, meaning, entries, Shows, Sound, NoKey, AtKey}
use Rattle.image.specs.Open.{Sizes, SameRow, Good, GoodTo, LineFault, Accepted}
use Rattle.terms.proofs.Storing.{row_storable}
use Rattle.image.specs.declared.marred.Marred.{Marred}
use Rattle.std.specs.List.{All, HoldsAt}
use Rattle.std.specs.Simd.{first_chunks}
use Rattle.image.proofs.Arrays.{line_of, front_at}
use Rattle.image.proofs.Decoding.{text_front}
use Rattle.image.proofs.Meanings.{hits_from, shows_front, shows_cells, entries_length, entries_at, shows_from, meaning_from}

held_append : (rs qs : List Place) → held (rs ++ qs) ≡ held rs ++ held qs
held_append [] qs = refl
held_append (None ∷ rs) qs = held_append rs qs
held_append (Some e ∷ rs) qs = ap (λ t. e ∷ t) (held_append rs qs)

look_push : (es : List Holding) (x : Holding) (q : List Cell) → look es q ≡ None → cells_eq x.0 q ≡ false → look (es ++ (x ∷ [])) q ≡ None
look_push [] x q n f = cond-false (cells_eq x.0 q) _ _ f
look_push (e ∷ es) x q n f = go (cells_eq e.0 q) n (λ m. look_push es x q m f)
  where
    go : (b : Bool) → cond b (Some e.1) (look es q) ≡ None → (look es q ≡ None → look (es ++ (x ∷ [])) q ≡ None) → cond b (Some e.1) (look (es ++ (x ∷ [])) q) ≡ None
    go true n r = absurd (let z : ◌≡◌ {A = ℕ} 0 1 = cc in omega arith)
    go false n r = r n

head_none : (e : Holding) (es : List Holding) (q : List Cell) → look (e ∷ es) q ≡ None → (cells_eq e.0 q ≡ false) × (look es q ≡ None)
head_none e es q n = go (cells_eq e.0 q) n
  where
    go : (b : Bool) → cond b (Some e.1) (look es q) ≡ None → (b ≡ false) × (look es q ≡ None)
    go true n = absurd (let z : ◌≡◌ {A = ℕ} 0 1 = cc in omega arith)
    go false n = (refl, n)

flip_false : (p q : List Cell) → cells_eq p q ≡ false → cells_eq q p ≡ false
flip_false p q e = ⊎_elim (λ t. absurd (both_ways (cells_eq p q) e (ap (cells_eq p) (same_true q p t) ∙ same_self p))) (λ f. f) (cases_Bool (cells_eq q p))

absent : (o : Option ℕ) → is_some o ≡ false → o ≡ None
absent None e = refl
absent (Some n) e = absurd (both_ways true e refl)

-- a row that is new stays apart
apart_push : (es : List Holding) (x : Holding) → Apart es → look es x.0 ≡ None → Apart (es ++ (x ∷ []))
apart_push [] x a n = refl
apart_push (e ∷ es) x a n =
    let p = and_parts (not (is_some (look es e.0))) _ a in
    let h = head_none e es x.0 n in
    let l : look (es ++ (x ∷ [])) e.0 ≡ None = look_push es x e.0 (absent (look es e.0) (not-true _ p.0)) (flip_false e.0 x.0 h.0) in
    and_from _ _ (ap (λ o. not (is_some o)) l) (apart_push es x p.1 h.1)

pub hit_parts : (o : Place) (q : List Cell) → hits o q ≡ true → (taken o ≡ true) × (row_at o ≡ q)
hit_parts None q h = absurd (both_ways false refl h)
hit_parts (Some x) q h = (refl, same_true x.0 q h)

module _ (Row : List Cell → Type 0) (xs : List ℕ) where
  -- good lines have no row twice
  apart_to : (n : ℕ) → n ≤ lines_in xs → GoodTo Row xs n → Apart (held (take n (entries xs)))
  apart_to zero h g = refl
  apart_to (suc n) h g =
      let l = entries_length xs in
      let more : held (take (suc n) (entries xs)) ≡ held (take n (entries xs)) ++ held (meaning (line n xs) ∷ []) =
      ap (λ m. held (take m (entries xs))) (sym (add-one n)) ∙ ap held (take_more (entries xs) n None (omega arith))
      ∙ held_append (take n (entries xs)) (get_or (entries xs) n None ∷ []) ∙ ap (λ o. held (take n (entries xs)) ++ held (o ∷ [])) (entries_at xs n None (omega arith)) in
      subst Apart (sym more) (go (meaning (line n xs)) refl (apart_to n (omega arith) (λ k b. g k (omega arith))))
    where
      new : (x : Holding) → meaning (line n xs) ≡ Some x → look (held (take n (entries xs))) x.0 ≡ None
      new x e =
          let l = entries_length xs in
          let t : length (take n (entries xs)) ≡ n = length-take-le n (entries xs) (omega arith) in
          none_find (take n (entries xs)) x.0
          (λ j d b.
          let at : get_or (take n (entries xs)) j d ≡ meaning (line j xs) = get_or-take n (entries xs) j d (omega arith) ∙ entries_at xs j d (omega arith) in
          ⊎_elim
          (λ y.
          let p = hit_parts (meaning (line j xs)) x.0 (sym (ap (λ o. hits o x.0) at) ∙ y) in
          absurd ((g n (omega arith)).new j (omega arith) (record { first = p.0; second = ap taken e; row = p.1 ∙ sym (ap row_at e) })))
          (λ f. f) (cases_Bool (hits (get_or (take n (entries xs)) j d) x.0)))

      go : (o : Place) → meaning (line n xs) ≡ o → Apart (held (take n (entries xs))) → Apart (held (take n (entries xs)) ++ held (o ∷ []))
      go None e a = subst Apart (sym (append-nil (held (take n (entries xs))))) a
      go (Some x) e a = apart_push (held (take n (entries xs))) x a (new x e)

  pub sound_from : Sizes xs → GoodTo Row xs (lines_in xs) → Sound Row xs
  sound_from s g = record {
    whole = s.0;
    allowed = s.1;
    shows = λ k h. (g k h).shows;
    apart = subst (λ ps. Apart (held ps)) (take_all (lines_in xs) (entries xs) (let l = entries_length xs in omega arith)) (apart_to (lines_in xs) (omega arith) g);
  }

-- rows of a kind can be kept
pub sound_weaker : (Row : List Cell → Type 0) (fit : (cs : List Cell) → Row cs → Storable cs) (xs : List ℕ) → Sound Row xs → Sound Storable xs
sound_weaker Row fit xs s = record { whole = s.whole; allowed = s.allowed; shows = λ k h. weaker (line k xs) (s.shows k h); apart = s.apart }
  where
    kept : (p : Place) → Proper Row p → Proper Storable p
    kept None p = tt
    kept (Some h) p = (fit h.0 p.0, p.1)

    weaker : (s : List ℕ) → Shows Row s → Shows Storable s
    weaker s w = record { good = kept (meaning s) w.good; same = w.same }

pub none_at : {X P : Type 0} (Q : X → Type 0) (o : Option X) → MatchOption o P Q → is_some o ≡ false → P
none_at Q None h e = h
none_at Q (Some x) h e = absurd (both_ways true e refl)

-- what comes of a `map_err`
module _ {T E D : Type 0} (o : Result T D) (P : E → D → Type 0) where
  pub mapped_ok : (r : Result T E) → MatchResult r (λ x. o ≡ Ok x) (λ e. IsErrAnd o (P e)) → (x : T) → o ≡ Ok x → r ≡ Ok x
  mapped_ok (Ok y) h x i = let same : y ≡ x = cc in ap (λ z. Ok z) same
  mapped_ok (Err e) h x i = let p = err_from_is_err_and o h in let j = p.1 in absurd (let z : ◌≡◌ {A = ℕ} 0 1 = cc in omega arith)

  pub mapped_err : (r : Result T E) → MatchResult r (λ x. o ≡ Ok x) (λ e. IsErrAnd o (P e)) → (d : D) → o ≡ Err d → (e : E) × (r ≡ Err e) × P e d
  mapped_err (Ok y) h d i = absurd (let z : ◌≡◌ {A = ℕ} 0 1 = cc in omega arith)
  mapped_err (Err e) h d i = let p = err_from_is_err_and o h in let j = p.1 in let same : p.0 ≡ d = cc in (e, refl, subst (P e) same p.2)

-- what a line's decoding says of it, after good lines
module _ (Row : List Cell → Type 0) (fit : (cs : List Cell) → Row cs → Storable cs) (xs : List ℕ) (k : ℕ) (before : GoodTo Row xs k) where
  good_none : line k xs ≡ text None → Good Row xs k
  good_none e = record {
    shows = shows_from Row fit (line k xs) None tt e;
    new = λ j h s. both_ways (taken (meaning (line k xs))) (ap taken (meaning_from Row fit (line k xs) None tt e)) s.second;
  }

  module _ (x : Holding) (p : Proper Row (Some x)) (e : line k xs ≡ text (Some x)) (front : List ℕ) (same_front : front ≡ take 120 (line k xs)) where
    means : meaning (line k xs) ≡ Some x
    means = meaning_from Row fit (line k xs) (Some x) p e

    front_is : front ≡ slots 12 x.0
    front_is = same_front ∙ ap (take 120) e ∙ text_front Row fit (Some x) p 12 (omega arith)

    good_some : NoKey xs front k → Good Row xs k
    good_some none = record {
      shows = shows_from Row fit (line k xs) (Some x) p e;
      new = λ j h s. none j h (shows_front Row fit (line j xs) (before j h).shows ∙ ap (slots 12) (s.row ∙ ap row_at means) ∙ sym front_is);
    }

    again : (j : ℕ) → AtKey xs front k j → Shows Row (line k xs) × ((j : ℕ) × (j < k) × SameRow xs j k)
    again j at =
        let cells = shows_cells Row fit (line j xs) (before j at.within).shows x.0 (fit x.0 p.0) (at.here ∙ front_is) in
        let hit = hits_from Row fit (line j xs) (before j at.within).shows x.0 (fit x.0 p.0) (at.here ∙ front_is) in (
          shows_from Row fit (line k xs) (Some x) p e,
          (j, at.within, record { first = (hit_parts (meaning (line j xs)) x.0 hit).0; second = ap taken means; row = cells ∙ sym (ap row_at means) }),
        )

  -- by what its decoding shows, and whether an earlier line begins alike
  module _ (lines : List (List ℕ)) (are : lines ≡ first_chunks 128 (lines_in xs) xs) (within : k < lines_in xs) where
    here : get_or lines k [] ≡ line k xs
    here = line_of xs lines are k [] within

    pub decoded : (r q : Result (Option Entry) Marred) → r ≡ q → Decoded Row (get_or lines k []) r → Decoded Row (line k xs) q
    decoded r q e d = subst (λ s. Decoded Row s q) here (subst (Decoded Row (get_or lines k [])) e d)

    abbrev Earlier : Option ℕ → Type 0
    Earlier a = MatchOption a (All (λ l. take 120 l ≢ take 120 (get_or lines k [])) (take k lines)) (λ j. (j < length (take k lines)) × HoldsAt (λ l. take 120 l ≡ take 120 (get_or lines k [])) (take k lines) j)

    looked : (a : Option ℕ) → Earlier a → MatchOption a (NoKey xs (take 120 (get_or lines k [])) k) (λ j. AtKey xs (take 120 (get_or lines k [])) k j)
    looked a h = front_at xs (take 120 (get_or lines k [])) k (take k lines) (ap (take k) are) (omega arith) a h

    module _ (r : Result (Option Entry) Marred) (d : Decoded Row (get_or lines k []) r) where
      pub line_good : (o : Option Entry) → r ≡ Ok o → (is_some o ≡ true → (a : Option ℕ) × Earlier a × (is_some a ≡ false)) → Good Row xs k
      line_good o e none = go o (decoded r (Ok o) e d) none
        where
          go : (o : Option Entry) → Decoded Row (line k xs) (Ok o) → (is_some o ≡ true → (a : Option ℕ) × Earlier a × (is_some a ≡ false)) → Good Row xs k
          go None d none = good_none d.1
          go (Some e) d none = let n = none refl in good_some (holding_of e) d.0 d.1 _ (ap (take 120) here) (none_at _ n.0 (looked n.0 n.1) n.2)

      pub line_again : (o : Option Entry) → r ≡ Ok o → is_some o ≡ true → (a : Option ℕ) → Earlier a → is_some a ≡ true → LineFault Row xs k (Again k)
      line_again o e t a h i = go o (decoded r (Ok o) e d) t a (looked a h) i
        where
          go : (o : Option Entry) → Decoded Row (line k xs) (Ok o) → is_some o ≡ true → (a : Option ℕ) → MatchOption a (NoKey xs (take 120 (get_or lines k [])) k) (λ j. AtKey xs (take 120 (get_or lines k [])) k j) → is_some a ≡ true → LineFault Row xs k (Again k)
          go None d t a h i = absurd (both_ways false refl t)
          go (Some e) d t None h i = absurd (both_ways false refl i)
          go (Some e) d t (Some j) h i = let a = again (holding_of e) d.0 d.1 _ (ap (take 120) here) j h in inr (refl, a.0, a.1)

pub accepted : (sig ns : List ℕ) (M : Meaning) → KindSound M → (xs : List ℕ) → sig ≡ ns → Arities ns → Sizes xs → GoodTo (RowCells sig M) xs (lines_in xs) → Accepted ns M xs xs
accepted sig ns M sound xs e a z g =
    let s : Sound (RowCells ns M) xs = subst (λ n. Sound (RowCells n M) xs) e (sound_from (RowCells sig M) xs z g) in
    record { same = refl; arities = a; sound = s; kept = sound_weaker (RowCells ns M) (row_storable M sound ns) xs s }
