-- Numbers in columns, as they are written and read column by column from the right.
use Rattle.std.proofs.Common.{◌≡◌, ℕ, ◌+◌, ◌-◌, ◌/◌, ◌%◌, ◌^◌, ◌<◌, ◌≤◌, eqb, List, [], ◌∷◌, ◌++◌, map, length, get_or, drop, set, replicate, decimal, sym, refl, ap, ◌∙◌, ⊎_elim, arith}
use Rattle.std.specs.Int.Digits.{digits_of}
use Rattle.std.proofs.lemmas.Int.Digits.{digits_of_step}
use Rattle.std.proofs.lemmas.Fmt.{decimal_digit, decimal_step, decimal-digits_of}
use Rattle.std.proofs.lemmas.List.{append-nil, append_assoc, map-append, length-append, replicate_more, length-set, drop-set-lt, drop_all, drop_more, get_or_at, get_or-set_same}
use Rattle.std.proofs.lemmas.Bool.{cases_eq, cases_lt, eq-eqb, ne_eqb, cond-true, cond-false}
use Rattle.columns.specs.Columns.{blank, pad, columns}
use Rattle.columns.specs.Steps.{mark}
use Rattle.columns.proofs.Numbers.{pad_length}

-- the digits of a number, and none for 0
unfoldable pub front : ℕ → List ℕ
front n = map (λ d. 48 + d) (digits_of 10 n)

front_zero : front 0 ≡ []
unfolding front
front_zero = refl

front_step : (n : ℕ) → 0 < n → front n ≡ front (n / 10) ++ ((48 + n % 10) ∷ [])
unfolding front
front_step n h = ap (map (λ d. 48 + d)) (digits_of_step 10 n (omega arith) h) ∙ map-append (λ d. 48 + d) (digits_of 10 (n / 10)) ((n % 10) ∷ [])

pub front_length : (n : ℕ) → 0 < n → length (front n) ≡ length (front (n / 10)) + 1
front_length n h = ap length (front_step n h) ∙ length-append (front (n / 10)) _

pub front_none : (n : ℕ) → n ≡ 0 → length (front n) ≡ 0
front_none n e = ap (λ m. length (front m)) e ∙ ap length front_zero

-- the last digit is always written
decimal_front : (n : ℕ) → n < 2 ^ 64 → decimal n ≡ front (n / 10) ++ ((48 + n % 10) ∷ [])
unfolding front
decimal_front n h =
    ⊎_elim
    (λ small.
    let q : n / 10 ≡ 0 = omega arith in
    let r : n % 10 ≡ n = omega arith in
    decimal_digit n small ∙ sym (ap (λ m. map (λ d. 48 + d) (digits_of 10 m) ++ ((48 + n % 10) ∷ [])) q ∙ ap (λ m. (48 + m) ∷ []) r))
    (λ large.
    decimal_step n large h ∙ ap (λ ds. ds ++ ((48 + n % 10) ∷ [])) (decimal-digits_of (n / 10) (omega arith) (omega arith)))
    (cases_lt n 10)

pub decimal_length : (n : ℕ) → n < 2 ^ 64 → length (decimal n) ≡ length (front (n / 10)) + 1
decimal_length n h = ap length (decimal_front n h) ∙ length-append (front (n / 10)) _

-- one column more at the left
pad_push : (i : ℕ) (ds : List ℕ) (d : ℕ) → pad (i + 1) (ds ++ (d ∷ [])) ≡ pad i ds ++ (d ∷ [])
unfolding pad
pad_push i ds d =
    let e : (i + 1) - length (ds ++ (d ∷ [])) ≡ i - length ds = omega (arith, length-append ds (d ∷ [])) in
    ap (λ m. replicate m 32 ++ (ds ++ (d ∷ []))) e ∙ sym (append_assoc (replicate (i - length ds) 32) ds (d ∷ []))

columns_last : (i n : ℕ) → n < 2 ^ 64 → columns (i + 1) n ≡ pad i (front (n / 10)) ++ ((48 + n % 10) ∷ [])
unfolding columns
columns_last i n h = ap (pad (i + 1)) (decimal_front n h) ∙ pad_push i (front (n / 10)) _

pad_none : (i : ℕ) → pad i [] ≡ blank i
unfolding pad
pad_none i = let e : i - 0 ≡ i = omega arith in append-nil _ ∙ ap (λ m. replicate m 32) e

front_mark : (i m : ℕ) → pad (i + 1) (front m) ≡ pad i (front (m / 10)) ++ (mark m ∷ [])
front_mark i m =
    ⊎_elim
    (λ z.
    let q : m / 10 ≡ 0 = omega arith in
    let k : mark m ≡ 32 = cond-true (eqb m 0) 32 (48 + m % 10) (eq-eqb m 0 z) in
    let a : pad (i + 1) (front m) ≡ blank (i + 1) = ap (λ v. pad (i + 1) (front v)) z ∙ ap (pad (i + 1)) front_zero ∙ pad_none (i + 1) in
    let b : pad i (front (m / 10)) ≡ blank i = ap (λ v. pad i (front v)) q ∙ ap (pad i) front_zero ∙ pad_none i in
    a ∙ sym (replicate_more i 32) ∙ sym (ap (λ v. v ++ (mark m ∷ [])) b ∙ ap (λ v. blank i ++ (v ∷ [])) k))
    (λ nz.
    let k : mark m ≡ 48 + m % 10 = cond-false (eqb m 0) 32 (48 + m % 10) (ne_eqb m 0 nz) in
    ap (pad (i + 1)) (front_step m (omega arith)) ∙ pad_push i (front (m / 10)) (48 + m % 10) ∙ ap (λ v. pad i (front (m / 10)) ++ (v ∷ [])) (sym k))
    (cases_eq m 0)

front_rest : (m i : ℕ) → length (front m) ≤ i + 1 → length (front (m / 10)) ≤ i
front_rest m i h =
    ⊎_elim
    (λ z. let q : m / 10 ≡ 0 = omega arith in let e = front_none (m / 10) q in omega arith)
    (λ nz. let e = front_length m (omega arith) in omega arith)
    (cases_eq m 0)

-- What is written from column i on, and what is still to write: a part that is written from the right is so at every step,
-- and one that is read from the right is so as long as it agrees.
pub record Done (part : List ℕ) (n i rest : ℕ) : Type 0 where
  pub shown : pad i (front rest) ++ drop i part ≡ columns (length part) n
  pub fits : length (front rest) ≤ i
  pub within : i < length part

module _ (part : List ℕ) (n : ℕ) (small : n < 2 ^ 64) (fits : length (decimal n) ≤ length part) where
  pub done_first : (i : ℕ) → length part ≡ i + 1 → get_or part i 0 ≡ 48 + n % 10 → Done part n i (n / 10)
  done_first i e g =
      let z : drop (i + 1) part ≡ [] = drop_all (i + 1) part (omega arith) in
      let l = decimal_length n small in
      record {
        shown =
            ap (λ v. pad i (front (n / 10)) ++ v) (drop_more part i 0 (omega arith) ∙ ap (λ v. v ∷ drop (i + 1) part) g ∙ ap (λ v. (48 + n % 10) ∷ v) z)
            ∙ sym (columns_last i n small) ∙ ap (λ m. columns m n) (sym e);
        fits = omega arith;
        within = omega arith;
      }

pub done_next : (part : List ℕ) (n i j rest : ℕ) → i ≡ j + 1 → get_or part j 0 ≡ mark rest → Done part n i rest → Done part n j (rest / 10)
done_next part n i j rest e g w =
    let m = w.fits in
    let o = w.within in
    record {
      shown =
          ap (λ v. pad j (front (rest / 10)) ++ v) (drop_more part j 0 (omega arith) ∙ ap (λ v. v ∷ drop (j + 1) part) g)
          ∙ sym (append_assoc (pad j (front (rest / 10))) (mark rest ∷ []) (drop (j + 1) part))
          ∙ ap (λ v. v ++ drop (j + 1) part) (sym (front_mark j rest))
          ∙ ap (λ k. pad k (front rest) ++ drop k part) (sym e)
          ∙ w.shown;
      fits = front_rest rest j (omega arith);
      within = omega arith;
    }

-- a write left of what is done
pub done_set : (part : List ℕ) (n i j rest b : ℕ) → j < i → Done part n i rest → Done (set part j b) n i rest
done_set part n i j rest b h w =
    let l = length-set part j b in
    let o = w.within in
    record {
      shown = ap (λ v. pad i (front rest) ++ v) (drop-set-lt i part j b h) ∙ w.shown ∙ ap (λ m. columns m n) (sym l);
      fits = w.fits;
      within = omega arith;
    }

nothing : (t : List ℕ) → length t ≤ 0 → t ≡ []
nothing [] h = refl
nothing (x ∷ t) h = absurd (omega arith)

pub done_last : (part : List ℕ) (n i rest : ℕ) → i ≡ 0 → Done part n i rest → part ≡ columns (length part) n
done_last part n i rest e w =
    let f = w.fits in
    sym (ap (λ m. pad m (front rest) ++ drop m part) e ∙ ap (λ v. pad 0 v ++ part) (nothing (front rest) (omega arith)) ∙ ap (λ v. v ++ part) (pad_none 0)) ∙ w.shown

-- what a text must have at the last column, and at the next one to the left
pub shown_last : (part : List ℕ) (n i : ℕ) → n < 2 ^ 64 → length part ≡ i + 1 → length (decimal n) ≤ length part → part ≡ columns (length part) n → get_or part i 0 ≡ 48 + n % 10
shown_last part n i small e fits s =
    let l = decimal_length n small in
    ap (λ t. get_or t i 0) (s ∙ ap (λ m. columns m n) e ∙ columns_last i n small)
    ∙ get_or_at (pad i (front (n / 10))) (48 + n % 10) [] 0 i (pad_length i (front (n / 10)) (omega arith))

pub shown_next : (part : List ℕ) (n i j rest : ℕ) → i ≡ j + 1 → Done part n i rest → part ≡ columns (length part) n → get_or part j 0 ≡ mark rest
shown_next part n i j rest e w s =
    let f = w.fits in
    ap (λ t. get_or t j 0)
    (s ∙ sym w.shown ∙ ap (λ k. pad k (front rest) ++ drop k part) e
    ∙ ap (λ v. v ++ drop (j + 1) part) (front_mark j rest)
    ∙ append_assoc (pad j (front (rest / 10))) (mark rest ∷ []) (drop (j + 1) part))
    ∙ get_or_at (pad j (front (rest / 10))) (mark rest) (drop (j + 1) part) 0 j (pad_length j (front (rest / 10)) (front_rest rest j (omega arith)))

-- the steps of a write
pub write_first : (part : List ℕ) (n i : ℕ) → n < 2 ^ 64 → length (decimal n) ≤ length part → length part ≡ i + 1 → Done (set part i (48 + n % 10)) n i (n / 10)
write_first part n i small fits e =
    let l = length-set part i (48 + n % 10) in
    done_first (set part i (48 + n % 10)) n small (omega arith) i (omega arith) (get_or-set_same part i (48 + n % 10) 0 (omega arith))

pub write_next : (part : List ℕ) (n i j rest b : ℕ) → i ≡ j + 1 → b ≡ mark rest → Done part n i rest → Done (set part j b) n j (rest / 10)
write_next part n i j rest b e m w =
    let o = w.within in
    done_next (set part j b) n i j rest e (get_or-set_same part j b 0 (omega arith) ∙ m) (done_set part n i j rest b (omega arith) w)
