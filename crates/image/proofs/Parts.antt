-- A line as a part of the image, and what a write to that part leaves.
use Rattle.std.proofs.Common.{◌≡◌, ℕ, ◌+◌, ◌-◌, ◌*◌, ◌<◌, ◌≤◌, List, length, take, drop, sym, ap, ◌∙◌, ⊎_elim, arith, rules}
use borrow.Rule.Slice.PartMut.{put_mid}
use Rattle.std.proofs.lemmas.List.{places}
use Rattle.std.proofs.lemmas.Slice.{between_is, between-put_mid, take-put_mid_below, drop-put_mid}
use Rattle.std.proofs.lemmas.Bool.{cases_lt}
use Rattle.image.specs.Meaning.{line, lines_in}
use Rattle.image.specs.Change.{OnlyLine}

-- a line by its two ends
ends : (k : ℕ) (xs : List ℕ) → line k xs ≡ drop (k * 128) (take (k * 128 + 128) xs)
unfolding line
ends k xs =
    let e : (k * 128 + 128) - k * 128 ≡ 128 = omega arith in
    ap (λ m. take m (drop (k * 128) xs)) (sym e) ∙ between_is xs (k * 128) (k * 128 + 128)

module _ (k n : ℕ) (xs ys : List ℕ) (en : n ≡ 128) (within : k < lines_in xs) (long : length ys ≡ 128) where
  fits : k * 128 + 128 ≤ length xs
  fits = omega arith

  there : line k (put_mid (k * 128) n xs ys) ≡ ys
  unfolding line
  there =
      let e : (k * 128 + 128) - k * 128 ≡ 128 = omega arith in
      let f : k * 128 ≤ length xs = omega (arith, fits) in
      let g : length ys ≡ (k * 128 + 128) - k * 128 = omega arith in
      ap (λ m. take m (drop (k * 128) (put_mid (k * 128) n xs ys))) (sym e) ∙ between-put_mid (k * 128) n xs ys (k * 128 + 128) f g

  below : (j : ℕ) → j < k → line j (put_mid (k * 128) n xs ys) ≡ line j xs
  below j h =
      let f : k * 128 ≤ length xs = omega (arith, fits) in
      let g : j * 128 + 128 ≤ k * 128 = omega arith in
      ends j (put_mid (k * 128) n xs ys) ∙ ap (drop (j * 128)) (take-put_mid_below (k * 128) n xs ys (j * 128 + 128) g f) ∙ sym (ends j xs)

  above : (j : ℕ) → k < j → line j (put_mid (k * 128) n xs ys) ≡ line j xs
  unfolding line
  above j h =
      let f : k * 128 ≤ length xs = omega (arith, fits) in
      let g : k * 128 + n ≤ j * 128 = omega arith in
      let m : length ys ≡ n = omega arith in
      ap (take 128) (drop-put_mid (k * 128) n xs ys (j * 128) g f m)

  pub only_line : OnlyLine k ys xs (put_mid (k * 128) n xs ys)
  only_line = record {
    here = there;
    others = λ j ne. ⊎_elim (below j) (λ h. above j (omega arith)) (cases_lt j k);
    long = let f : k * 128 + n ≤ length xs = omega (arith, fits) in let m : length ys ≡ n = omega arith in search (rules, places);
  }
