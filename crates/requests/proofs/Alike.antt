-- Lines that are alike, their first columns, and their ends.
use Rattle.std.proofs.Common.{◌≡◌, ℕ, zero, suc, ◌+◌, ◌-◌, ◌<◌, ◌≤◌, Bool, true, false, cond, eqb, List, [], ◌∷◌, ◌++◌, length, get_or, take, drop, sym, refl, ap, ◌∙◌, ⊎_elim, arith}
use native.Mathlib.Numerals.{unary_clauses}
use Rattle.std.proofs.lemmas.List.{length-append, length-replicate, length-take-le, length-drop, get_or-take, get_or-drop, get_or_past, get_or_default, ext_get_or, take_at, drop_at}
use Rattle.std.proofs.lemmas.Bool.{cases_eq, cases_lt, eq-eqb, ne_eqb}
use Rattle.columns.specs.Columns.{blank}
use Rattle.requests.specs.Lines.{Alike, front, before, trim}

getD_blank : (w i : ℕ) → get_or (blank w) i 32 ≡ 32
getD_blank zero i = refl
getD_blank (suc w) zero = refl
getD_blank (suc w) (suc i) = getD_blank w i

-- blanks at the end mean nothing
pub alike_blank : (s : List ℕ) (w : ℕ) → Alike (s ++ blank w) s
alike_blank [] w i = getD_blank w i
alike_blank (b ∷ s) w zero = refl
alike_blank (b ∷ s) w (suc i) = alike_blank s w i

pub front_length : (w : ℕ) (s : List ℕ) → length (front w s) ≡ w
front_length w s =
    let a = length-append s (blank w) in
    let b = length-replicate {A = ℕ} w 32 in
    length-take-le w (s ++ blank w) (omega arith)

pub get_d_front : (w : ℕ) (s : List ℕ) (i : ℕ) → i < w → get_or (front w s) i 32 ≡ get_or s i 32
get_d_front w s i h = get_or-take w (s ++ blank w) i 32 h ∙ alike_blank s w i

pub front_is : (w : ℕ) (s t : List ℕ) → length t ≡ w → ((i : ℕ) → i < w → get_or t i 32 ≡ get_or s i 32) → t ≡ front w s
front_is w s t l e =
    let f = front_length w s in
    ext_get_or 32 t (front w s) (omega arith) (λ i h. let k : i < w = omega arith in e i k ∙ sym (get_d_front w s i k))

pub alike_front : (w : ℕ) (x y : List ℕ) → Alike x y → front w x ≡ front w y
alike_front w x y e = front_is w y (front w x) (front_length w x) (λ i h. get_d_front w x i h ∙ e i)

pub alike_drop : (k : ℕ) (x y : List ℕ) → Alike x y → Alike (drop k x) (drop k y)
alike_drop k x y e i = get_or-drop k x i 32 ∙ e (k + i) ∙ sym (get_or-drop k y i 32)

pub front_at : (w : ℕ) (p q : List ℕ) → length p ≡ w → front w (p ++ q) ≡ p
front_at w p q l =
    sym (front_is w (p ++ q) p l (λ i h. sym (ap (λ t. get_or t i 32) (take_at p q w l)) ∙ get_or-take w (p ++ q) i 32 h))

-- a line that ends in no blank
abbrev pub Marked : List ℕ → Type 0
Marked x = 0 < length x → get_or x (length x - 1) 32 ≡ 32 → ⊥

not_longer : (x y : List ℕ) → Marked y → Alike x y → length y ≤ length x
not_longer x y m e =
    ⊎_elim
    (λ l. absurd (m (omega arith) (sym (e (length y - 1)) ∙ get_or_past x (length y - 1) 32 (omega arith))))
    (λ g. g)
    (cases_lt (length x) (length y))

-- such lines are the same where they are alike
pub marked_same : (x y : List ℕ) → Marked x → Marked y → Alike x y → x ≡ y
marked_same x y m n e =
    let a = not_longer x y n e in
    let b = not_longer y x m (λ i. sym (e i)) in
    ext_get_or 32 x y (omega arith) (λ i _. e i)

before_alike : (b : ℕ) (t s : List ℕ) → Alike t s → Alike (before b t) (b ∷ s)
before_alike b [] s e i =
    ⊎_elim
    (λ z. ap (λ v. get_or (cond v [] (b ∷ [])) i 32) (eq-eqb b 32 z) ∙ blank_first b s z e i)
    (λ nz. ap (λ v. get_or (cond v [] (b ∷ [])) i 32) (ne_eqb b 32 nz) ∙ one_first b s e i)
    (cases_eq b 32)
  where
    blank_first : (b : ℕ) (s : List ℕ) → b ≡ 32 → Alike [] s → (i : ℕ) → 32 ≡ get_or (b ∷ s) i 32
    blank_first b s z e zero = sym z
    blank_first b s z e (suc i) = e i

    one_first : (b : ℕ) (s : List ℕ) → Alike [] s → (i : ℕ) → get_or (b ∷ []) i 32 ≡ get_or (b ∷ s) i 32
    one_first b s e zero = refl
    one_first b s e (suc i) = e i
before_alike b (c ∷ t) s e zero = refl
before_alike b (c ∷ t) s e (suc i) = e i

pub trim_alike : (s : List ℕ) → Alike (trim s) s
unfolding trim
trim_alike [] = λ i. refl
trim_alike (b ∷ s) = before_alike b (trim s) s (trim_alike s)

before_marked : (b : ℕ) (t : List ℕ) → Marked t → Marked (before b t)
before_marked b [] m =
    ⊎_elim
    (λ z. subst_to b true (eq-eqb b 32 z) (λ h _. absurd (omega arith)))
    (λ nz. subst_to b false (ne_eqb b 32 nz) (λ _ e. nz e))
    (cases_eq b 32)
  where
    subst_to : (b : ℕ) (v : Bool) → eqb b 32 ≡ v → Marked (cond v [] (b ∷ [])) → Marked (cond (eqb b 32) [] (b ∷ []))
    subst_to b v e m = rw e m
before_marked b (c ∷ t) m = λ _ e. m (omega arith) (simp unary_clauses (simp unary_clauses at e))

pub trim_marked : (s : List ℕ) → Marked (trim s)
unfolding trim
trim_marked [] = λ h _. absurd (omega arith)
trim_marked (b ∷ s) = before_marked b (trim s) (trim_marked s)

-- lines that are alike are the same without the blanks at their ends
pub trim_same : (x y : List ℕ) → Alike x y → trim x ≡ trim y
trim_same x y e = marked_same (trim x) (trim y) (trim_marked x) (trim_marked y) (λ i. trim_alike x i ∙ e i ∙ sym (trim_alike y i))

-- a blank at the end goes
pub trim_last : (s : List ℕ) → 0 < length s → get_or s (length s - 1) 0 ≡ 32 → trim (take (length s - 1) s) ≡ trim s
trim_last s h e =
    let l = length-take-le (length s - 1) s (omega arith) in
    trim_same (take (length s - 1) s) s
    (λ i. ⊎_elim
    (λ lt. get_or-take (length s - 1) s i 32 lt)
    (λ ge. get_or_past (take (length s - 1) s) i 32 (omega arith) ∙ ⊎_elim
    (λ q. sym (ap (λ k. get_or s k 32) q ∙ get_or_default s (length s - 1) 32 0 (omega arith) ∙ e))
    (λ d. sym (get_or_past s i 32 (omega arith)))
    (cases_eq i (length s - 1)))
    (cases_lt i (length s - 1)))

-- and what ends in no blank stays
pub trim_none : (s : List ℕ) → length s < 1 → trim s ≡ s
trim_none s h = sym (marked_same s (trim s) (λ l _. absurd (omega arith)) (trim_marked s) (λ i. sym (trim_alike s i)))

pub trim_whole : (s : List ℕ) → 1 ≤ length s → (get_or s (length s - 1) 0 ≡ 32 → ⊥) → trim s ≡ s
trim_whole s h n =
    let d = get_or_default s (length s - 1) 0 32 (omega arith) in
    sym (marked_same s (trim s) (λ _ e. n (d ∙ e)) (trim_marked s) (λ i. sym (trim_alike s i)))

pub trim_front : (s : List ℕ) → take (length (trim s)) s ≡ trim s
trim_front s =
    let n = not_longer s (trim s) (trim_marked s) (λ i. sym (trim_alike s i)) in
    let l = length-take-le (length (trim s)) s n in
    ext_get_or 32 (take (length (trim s)) s) (trim s) l (λ i h. get_or-take (length (trim s)) s i 32 (omega arith) ∙ sym (trim_alike s i))

pub first_columns : (w : ℕ) (line p q : List ℕ) → length p ≡ w → Alike line (p ++ q) → front w line ≡ p
first_columns w line p q l e = alike_front w line (p ++ q) e ∙ front_at w p q l

pub next_columns : (w : ℕ) (line p q : List ℕ) → length p ≡ w → Alike line (p ++ q) → Alike (drop w line) q
next_columns w line p q l e i = alike_drop w line (p ++ q) e i ∙ ap (λ t. get_or t i 32) (drop_at p q w l)

-- what follows some columns ends in no blank either
pub drop_marked : (k : ℕ) (x : List ℕ) → Marked x → Marked (drop k x)
drop_marked k x m h e =
    let l = length-drop k x in
    let at : k + (length (drop k x) - 1) ≡ length x - 1 = omega arith in
    m (omega arith) (sym (ap (λ n. get_or x n 32) at) ∙ sym (get_or-drop k x (length (drop k x) - 1) 32) ∙ e)

pub marked_none : (x : List ℕ) → Marked x → Alike x [] → x ≡ []
marked_none x m e = marked_same x [] m (λ h _. absurd (omega arith)) e

pub alike_blanks : (x y : List ℕ) → Alike x y → (i j : ℕ) × (x ++ blank i ≡ y ++ blank j)
alike_blanks x y e =
    let i = length y - length x in
    let j = length x - length y in
    let a = length-append x (blank i) in
    let b = length-append y (blank j) in
    let c = length-replicate {A = ℕ} i 32 in
    let d = length-replicate {A = ℕ} j 32 in
    (i, j, ext_get_or 32 (x ++ blank i) (y ++ blank j) (omega arith) (λ k _. alike_blank x i k ∙ e k ∙ sym (alike_blank y j k)))

pub blanks_alike : (x y : List ℕ) (i j : ℕ) → x ++ blank i ≡ y ++ blank j → Alike x y
blanks_alike x y i j e k = sym (alike_blank x i k) ∙ ap (λ t. get_or t k 32) e ∙ alike_blank y j k
