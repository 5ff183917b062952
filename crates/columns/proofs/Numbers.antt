-- Numbers in columns: how they are written, and that they read back.
use Rattle.std.proofs.Common.{◌≡◌, ℕ, zero, suc, ◌+◌, ◌-◌, ◌/◌, ◌%◌, ◌^◌, ◌<◌, ◌≤◌, cond, ltb, List, [], ◌∷◌, ◌++◌, map, length, take, drop, replicate, decimal, sym, refl, ap, ◌∙◌, subst, ⊎_elim, arith}
use Rattle.std.specs.Int.Digits.{number_from_digits, AllBelowBase}
use Rattle.std.proofs.lemmas.Int.Digits.{number_lt, number_after_append, number_after_ge}
use Rattle.std.proofs.lemmas.Fmt.{decimal_digit, decimal_step, decimal_by_steps, decimal_nonempty, length-decimal-le}
use Rattle.std.proofs.lemmas.List.{append_assoc, length-map, map-append, length-append, length-replicate, replicate_more, take-append-drop, same_from_push}
use Rattle.std.proofs.lemmas.Bool.{cases_eq, cases_lt, cond-true, cond-false, lt-ltb, le-ltb}
use Rattle.columns.specs.Columns.{blank, pad, columns}
use Rattle.columns.specs.Steps.{worth}

pub columns_is : (w n : ℕ) → columns w n ≡ blank (w - length (decimal n)) ++ decimal n
unfolding columns pad
columns_is w n = refl

pub pad_length : (w : ℕ) (t : List ℕ) → length t ≤ w → length (pad w t) ≡ w
unfolding pad
pad_length w t h =
    let r = length-replicate {A = ℕ} (w - length t) 32 in
    length-append (replicate (w - length t) 32) t ∙ omega arith

-- a column more at the right
pad_push : (w : ℕ) (ds : List ℕ) (d : ℕ) → pad w (ds ++ (d ∷ [])) ≡ pad (w - 1) ds ++ (d ∷ [])
unfolding pad
pad_push w ds d =
    let e : w - length (ds ++ (d ∷ [])) ≡ w - 1 - length ds = omega (arith, length-append ds (d ∷ [])) in
    ap (λ m. replicate m 32 ++ (ds ++ (d ∷ []))) e ∙ sym (append_assoc (replicate (w - 1 - length ds) 32) ds (d ∷ []))

pub columns_digit : (w n : ℕ) → n < 10 → columns w n ≡ blank (w - 1) ++ ((48 + n % 10) ∷ [])
unfolding columns pad
columns_digit w n h =
    let r : n % 10 ≡ n = omega arith in
    ap (pad w) (decimal_digit n h) ∙ ap (λ m. blank (w - 1) ++ ((48 + m) ∷ [])) (sym r)

pub columns_step : (w n : ℕ) → 10 ≤ n → n < 2 ^ 64 → columns w n ≡ columns (w - 1) (n / 10) ++ ((48 + n % 10) ∷ [])
unfolding columns
columns_step w n h k = ap (pad w) (decimal_step n h k) ∙ pad_push w (decimal (n / 10)) (48 + n % 10)

-- reading back
worth_digit : (d : ℕ) → d < 10 → worth (48 + d) ≡ d
worth_digit d h =
    let e : 48 + d - 48 ≡ d = omega arith in
    cond-false (ltb (48 + d) 48) 0 _ (le-ltb (48 + d) 48 (omega arith)) ∙ cond-true (ltb (48 + d) 58) _ 0 (lt-ltb (48 + d) 58 (omega arith)) ∙ e

pub worth_under : (b : ℕ) → worth b < 10
worth_under b =
    ⊎_elim
    (λ l. let e = cond-true (ltb b 48) 0 (cond (ltb b 58) (b - 48) 0) (lt-ltb b 48 l) in omega arith)
    (λ g. let e = cond-false (ltb b 48) 0 (cond (ltb b 58) (b - 48) 0) (le-ltb b 48 g) in
    ⊎_elim
    (λ l. let f = cond-true (ltb b 58) (b - 48) 0 (lt-ltb b 58 l) in omega arith)
    (λ m. let f = cond-false (ltb b 58) (b - 48) 0 (le-ltb b 58 m) in omega arith)
    (cases_lt b 58))
    (cases_lt b 48)

worth_all : (s : List ℕ) → AllBelowBase 10 (map worth s)
worth_all [] = tt
worth_all (b ∷ bs) = (worth_under b, worth_all bs)

spaces_worth : (k : ℕ) (rest : List ℕ) → number_from_digits 10 (map worth (replicate k 32 ++ rest)) ≡ number_from_digits 10 (map worth rest)
spaces_worth zero rest = refl
spaces_worth (suc k) rest = spaces_worth k rest

decimal_worth : (n : ℕ) → n < 2 ^ 64 → number_from_digits 10 (map worth (decimal n)) ≡ n
decimal_worth n h =
    decimal_by_steps (λ m ds. number_from_digits 10 (map worth ds) ≡ m)
    (λ m k. let w = worth_digit m k in omega arith)
    (λ m ds k p.
    let w : worth (48 + m % 10) ≡ m % 10 = worth_digit (m % 10) (omega arith) in
    ap (number_from_digits 10) (map-append worth ds ((48 + m % 10) ∷ []))
    ∙ number_after_append 10 0 (map worth ds) (worth (48 + m % 10) ∷ [])
    ∙ omega arith)
    n h

pub reads_back : (w n : ℕ) → n < 2 ^ 64 → number_from_digits 10 (map worth (columns w n)) ≡ n
unfolding columns pad
reads_back w n h = spaces_worth (w - length (decimal n)) (decimal n) ∙ decimal_worth n h

-- the columns show at most one number
pub columns_same : (w m n : ℕ) → m < 2 ^ 64 → n < 2 ^ 64 → columns w m ≡ columns w n → m ≡ n
columns_same w m n hm hn e = sym (reads_back w m hm) ∙ ap (λ s. number_from_digits 10 (map worth s)) e ∙ reads_back w n hn

-- a front of the digits writes no larger number
pub front_number : (ds : List ℕ) (i : ℕ) → number_from_digits 10 (take i ds) ≤ number_from_digits 10 ds
front_number ds i =
    let s : number_from_digits 10 (take i ds ++ drop i ds) ≡ number_from_digits 10 ds = ap (number_from_digits 10) (take-append-drop i ds) in
    let a = number_after_append 10 0 (take i ds) (drop i ds) in
    let g = number_after_ge 10 (number_from_digits 10 (take i ds)) (drop i ds) (omega arith) in
    omega arith

-- a number of w columns is below 10 ^ w
pub columns_below : (part : List ℕ) (n : ℕ) → n < 2 ^ 64 → part ≡ columns (length part) n → n < 10 ^ length part
columns_below part n small e =
    let b : number_from_digits 10 (map worth part) < 10 ^ length part = subst (λ m. number_from_digits 10 (map worth part) < 10 ^ m) (length-map part worth) (number_lt 10 (map worth part) (worth_all part)) in
    subst (λ k. k < 10 ^ length part) (ap (λ t. number_from_digits 10 (map worth t)) e ∙ reads_back (length part) n small) b

-- a number below 10 ^ w has w columns
pub columns_length : (w n : ℕ) → 0 < w → n < 2 ^ 64 → n < 10 ^ w → length (columns w n) ≡ w
unfolding columns
columns_length w n some small h = pad_length w (decimal n) (length-decimal-le w n some h small)

-- no number is blank
pub columns_marked : (i n : ℕ) → n < 2 ^ 64 → columns (i + 1) n ≡ blank (i + 1) → ⊥
columns_marked i n h e =
    ⊎_elim
    (λ small. ends _ (sym (columns_digit (i + 1) n small) ∙ e))
    (λ large. ends _ (sym (columns_step (i + 1) n large h) ∙ e))
    (cases_lt n 10)
  where
    ends : (front : List ℕ) → front ++ ((48 + n % 10) ∷ []) ≡ blank (i + 1) → ⊥
    ends front q = let p = same_from_push front (blank i) (48 + n % 10) 32 (q ∙ sym (replicate_more i 32)) in let b = p.1 in omega arith

-- what shows a number has a column for each digit
pub columns_fits : (part : List ℕ) (n : ℕ) → part ≡ columns (length part) n → length (decimal n) ≤ length part
unfolding columns pad
columns_fits part n e =
    let a = ap length e in
    let b = length-append (replicate (length part - length (decimal n)) 32) (decimal n) in
    omega arith

-- nor at any width
pub columns_unblank : (w n : ℕ) → n < 2 ^ 64 → columns w n ≡ blank w → ⊥
columns_unblank w n h e =
    ⊎_elim
    (λ z.
    let l = columns_fits (blank w) n (sym e ∙ ap (λ m. columns m n) (sym (length-replicate {A = ℕ} w 32))) in
    let d = decimal_nonempty n h in
    let k = length-replicate {A = ℕ} w 32 in
    omega arith)
    (λ nz.
    let s : w ≡ w - 1 + 1 = omega arith in
    columns_marked (w - 1) n h (ap (λ m. columns m n) (sym s) ∙ e ∙ ap blank s))
    (cases_eq w 0)
