-- Bits of a mask, and the zeros below its lowest set bit. Assumes nothing.
use Rattle.std.proofs.Common.{◌≡◌, ℕ, zero, suc, ◌+◌, ◌-◌, ◌/◌, ◌%◌, ◌^◌, ◌<◌, ◌≤◌, Bool, true, false, not, ◌==◌, sym, refl, ap, ◌∙◌, ⊎_elim, add-one, one-add, arith, rules}
use lib.Count.{count_trailing_zeros, under}
use Rattle.std.proofs.lemmas.Nat.{shr-shr, shr_le, shr_below}
use Rattle.std.proofs.lemmas.Bool.{cases_lt, and_parts, leb-true}
use Rattle.kinds.specs.Sets.{Bit, ClassHolds, class_known}
use Rattle.kinds.specs.Smallest.{Smallest}
use Rattle.std.specs.Bool.{then_some}
use borrow.Author.Tests.{tests}
use Rattle.kinds.specs.declared.condition.Condition.{Condition}

-- one place further is a place in the half
halved : (n t : ℕ) → n / 2 ^ suc t ≡ n / 2 / 2 ^ t
halved n t = sym (shr-shr n 1 t ∙ ap (λ (x : ℕ). n / 2 ^ x) (one-add t))

set_step : (n t d : ℕ) → n % 2 ≡ d → (d ≡ 0 → n / 2 / 2 ^ t % 2 ≡ 1) → n / 2 ^ under d t % 2 ≡ 1
set_step n t zero e h = ap (λ (m : ℕ). m % 2) (halved n t) ∙ h refl
set_step n t (suc d) e h = omega arith

clear_step : (n t d j : ℕ) → n % 2 ≡ d → ((i : ℕ) → i < t → n / 2 / 2 ^ i % 2 ≡ 0) → j < under d t → n / 2 ^ j % 2 ≡ 0
clear_step n t zero zero e h l = omega arith
clear_step n t zero (suc j) e h l = ap (λ (m : ℕ). m % 2) (halved n j) ∙ h j (omega arith)
clear_step n t (suc d) j e h l = absurd (omega arith)

-- the place after the zeros is set, in a number that is not 0
pub trailing_set : (k n : ℕ) → 0 < n → n < 2 ^ k → n / 2 ^ count_trailing_zeros k n % 2 ≡ 1
unfolding count_trailing_zeros
trailing_set zero n p h = absurd (omega arith)
trailing_set (suc k) n p h =
    let half : n / 2 < 2 ^ k = shr_below n k 1 (rw (add-one k) h) in
    set_step n (count_trailing_zeros k (n / 2)) (n % 2) refl (λ e. trailing_set k (n / 2) (omega arith) half)

-- each place of the zeros is clear
pub trailing_clear : (k n j : ℕ) → j < count_trailing_zeros k n → n / 2 ^ j % 2 ≡ 0
unfolding count_trailing_zeros
trailing_clear zero n j l = absurd (omega arith)
trailing_clear (suc k) n j l = clear_step n (count_trailing_zeros k (n / 2)) (n % 2) j refl (trailing_clear k (n / 2)) l

-- a place from v on, seen in the mask shifted down to v
shifted : (a v c : ℕ) → v ≤ c → a / 2 ^ c ≡ a / 2 ^ v / 2 ^ (c - v)
shifted a v c h = let e : v + (c - v) ≡ c = omega arith in sym (shr-shr a v (c - v) ∙ ap (λ (x : ℕ). a / 2 ^ x) e)

pub mask_none : (a v c : ℕ) → a / 2 ^ v ≡ 0 → v ≤ c → Bit a c → ⊥
mask_none a v c e l b =
    let z : a / 2 ^ c ≡ 0 / 2 ^ (c - v) = shifted a v c l ∙ ap (λ (x : ℕ). x / 2 ^ (c - v)) e in
    omega (arith, shr_le 0 (c - v))

-- a bit of a number of k digits is one of the k
pub bit_below : (a k c : ℕ) → a < 2 ^ k → Bit a c → c < k
bit_below a k c h b = ⊎_elim (λ l. l) (λ l. absurd (mask_none a k c (omega (arith, shr_below a 0 k (rw native.Mathlib.Nat.zero-add h))) l b)) (cases_lt c k)

pub mask_next : (a v : ℕ) → (a / 2 ^ v ≡ 0 → ⊥) → a < 2 ^ 24
    → Bit a (v + count_trailing_zeros 32 (a / 2 ^ v)) × ((c : ℕ) → v ≤ c → c < v + count_trailing_zeros 32 (a / 2 ^ v) → Bit a c → ⊥)
mask_next a v n h =
    let m = a / 2 ^ v in
    let t = count_trailing_zeros 32 m in
    let set : m / 2 ^ t % 2 ≡ 1 = trailing_set 32 m (omega arith) (omega (arith, shr_le a v)) in (
      ap (λ (x : ℕ). x % 2) (sym (shr-shr a v t)) ∙ set,
      λ c l b p.
          let clear : m / 2 ^ (c - v) % 2 ≡ 0 = trailing_clear 32 m (c - v) (omega arith) in
          omega (arith, ap (λ (x : ℕ). x % 2) (shifted a v c l)),
    )

pub class_mask : (q : Condition) → class_known q ≡ true → q.a < 2 ^ 24
class_mask q h = omega (arith, leb-true q.a 16777215 (and_parts _ _ (and_parts _ _ h).1).0)

-- the next class of a condition from v on: v and the zeros of the mask shifted down to v, where a bit is left
pub next_class : (q : Condition) (v : ℕ) → class_known q ≡ true → v ≤ 23
    → Smallest (ClassHolds q) v (then_some (not (q.a / 2 ^ v == 0)) (v + count_trailing_zeros 32 (q.a / 2 ^ v)))
next_class q v known low = by_rest (q.a / 2 ^ v == 0) refl
  where
    by_rest : (b : Bool) → (q.a / 2 ^ v == 0) ≡ b → Smallest (ClassHolds q) v (then_some (not b) (v + count_trailing_zeros 32 (q.a / 2 ^ v)))
    by_rest true e = λ k l h. mask_none q.a v k (search (rules, tests)) l h.2
    by_rest false e =
        let n = mask_next q.a v (search (rules, tests)) (class_mask q known) in
        let b = bit_below q.a 24 _ (class_mask q known) n.0 in
        (omega arith, (known, omega arith, n.0), λ k l m h. n.1 k l m h.2)
