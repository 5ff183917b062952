-- The tests of lines are what they are for: what the ghost members of the store cite.
use Rattle.std.specs.Prelude.{◌≡◌, ℕ, zero, suc, ◌*◌, ◌<◌, ◌≤◌, true, List, length, Some, None, nat_le, nat_lt, refl}
use Rattle.std.proofs.Common.{sym, subst, ⊎_elim, arith}
use Rattle.std.specs.List.{AllByRecursion}
use Rattle.std.specs.Str.{bytes_eq}
use Rattle.std.proofs.lemmas.List.FromFn.{length-map-range_with_len, get_or-map-range_with_len}
use Rattle.std.proofs.ByRecursion.{All-from_get_or}
use Rattle.std.proofs.lemmas.Slice.Eq.{bytes_eq-Decides}
use Rattle.std.proofs.lemmas.Bool.{and_parts, and_from, ltb-true, lt-ltb, leb-true, le-leb, cases_eq}
use Rattle.stores.specs.Places.{Place, count_at, held, rows_in, Apart}
use Rattle.stores.specs.Maps.{held_room}
use Rattle.terms.specs.Rows.{Storable}
use Rattle.terms.specs.Short.{all_short}
use Rattle.terms.proofs.Storing.{short_all, short_from}
use Rattle.image.specs.Texts.{Proper, text}
use Rattle.image.specs.Meaning.{line, lines_in, meaning, entries, Shows, Sound, fine, shown_line, shown_to}

fine_proper : (p : Place) → fine p ≡ true → Proper Storable p
fine_proper None e = tt
fine_proper (Some h) e =
    let a = and_parts (nat_lt 0 (length h.0)) _ e in
    let b = and_parts (nat_le (length h.0) 12) _ a.1 in
    let d = and_parts (all_short h.0) (nat_le h.1 999999) b.1 in
    (record { some = ltb-true 0 (length h.0) a.0; few = leb-true (length h.0) 12 b.0; short = short_all h.0 d.0 }, leb-true h.1 999999 d.1)

proper_fine : (p : Place) → Proper Storable p → fine p ≡ true
proper_fine None p = refl
proper_fine (Some h) p =
    and_from _ _ (lt-ltb 0 (length h.0) p.0.some)
    (and_from _ _ (le-leb (length h.0) 12 p.0.few) (and_from _ _ (short_from h.0 p.0.short) (le-leb h.1 999999 p.1)))

shows_from_test : (s : List ℕ) → shown_line s ≡ true → Shows Storable s
shows_from_test s e =
    let a = and_parts (bytes_eq s (text (meaning s))) (fine (meaning s)) e in
    record { good = fine_proper (meaning s) a.1; same = (bytes_eq-Decides s (text (meaning s))).0 a.0 }

test_from_shows : (s : List ℕ) → Shows Storable s → shown_line s ≡ true
test_from_shows s w = and_from _ _ ((bytes_eq-Decides s (text (meaning s))).1 w.same) (proper_fine (meaning s) w.good)

pub shows_tested : (n : ℕ) (xs : List ℕ) → shown_to n xs ≡ true → (k : ℕ) → k < n → Shows Storable (line k xs)
unfolding shown_to
shows_tested zero xs e k h = absurd (omega arith)
shows_tested (suc n) xs e k h =
    let a = and_parts (shown_line (line n xs)) (shown_to n xs) e in
    ⊎_elim (λ z. subst (λ i. Shows Storable (line i xs)) (sym z) (shows_from_test (line n xs) a.0)) (λ ne. shows_tested n xs a.1 k (omega arith)) (cases_eq k n)

pub tested_shows : (n : ℕ) (xs : List ℕ) → ((k : ℕ) → k < n → Shows Storable (line k xs)) → shown_to n xs ≡ true
unfolding shown_to
tested_shows zero xs f = refl
tested_shows (suc n) xs f = and_from _ _ (test_from_shows (line n xs) (f n (omega arith))) (tested_shows n xs (λ k h. f k (omega arith)))

-- every count is at most 999,999
count_small : (p : Place) → Proper Storable p → count_at p ≤ 999999
count_small None p = omega arith
count_small (Some h) p = p.1

pub entries_small : (xs : List ℕ) → shown_to (lines_in xs) xs ≡ true → AllByRecursion (λ p. count_at p ≤ 999999) (entries xs)
unfolding entries
entries_small xs e =
    let l = length-map-range_with_len (λ k. meaning (line k xs)) 0 (lines_in xs) in
    All-from_get_or (λ p. count_at p ≤ 999999) (entries xs) None
    (λ j h.
    let b : j < lines_in xs = omega arith in
    subst (λ p. count_at p ≤ 999999) (sym (get_or-map-range_with_len (λ i. meaning (line i xs)) 0 (lines_in xs) j j None b (omega arith)))
    (count_small (meaning (line j xs)) (shows_tested (lines_in xs) xs e j b).good))

-- there are no more rows than lines
pub entries_room : (xs : List ℕ) → length (rows_in (held (entries xs))) ≤ lines_in xs
unfolding entries
entries_room xs = let l = length-map-range_with_len (λ k. meaning (line k xs)) 0 (lines_in xs) in omega (arith, held_room (entries xs))

pub sound_tested : (xs : List ℕ) → length xs ≡ lines_in xs * 128 → 1 ≤ lines_in xs → lines_in xs ≤ 4096 → shown_to (lines_in xs) xs ≡ true → Apart (held (entries xs)) → Sound Storable xs
sound_tested xs w s f e a = record { whole = w; allowed = (s, f); shows = shows_tested (lines_in xs) xs e; apart = a }
