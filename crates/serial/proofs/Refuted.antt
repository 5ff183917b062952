-- The sample histories are not serial.
use Rattle.std.proofs.Common.{◌≡◌, ℕ, ◌≤◌, List, [], ◌∷◌, length, Some, refl, inl, inr, arith}
use native.Mathlib.Decide.{ℕ_discrete}
use Rattle.maps.specs.Maps.{In, Figures}
use Rattle.serial.specs.Rights.{Right.reading, Right.writing}
use Rattle.serial.specs.Samples.{NotSerial, overlapping, lost_update, half_seen}

pub overlapping_refuted : NotSerial overlapping
overlapping_refuted first m s =
    s.apart (record { owner = 1; right = writing; pattern = 5; number = 1 }) (record { owner = 2; right = reading; pattern = 3; number = 2 })
    (inr (inl refl), (inr (inl refl), λ e. e)) (inl refl, (inl refl, λ e. e))
    ((λ e. omega arith), inl refl, (0, omega arith, omega arith))

pub lost_refuted : NotSerial lost_update
unfolding ℕ_discrete
lost_refuted first m s =
    let mid = s.in_turn.0 in
    let left : mid 5 ≡ Some 11 = s.in_turn.1.3 5 in
    let seen : Some 10 ≡ mid 5 = s.in_turn.2.0 in
    let z : ◌≡◌ {A = ℕ} 10 11 = cc in omega arith

-- a list of one has no two members
one_member : (l : List ℕ) → 1 ≡ length l → In 0 l → In 1 l → ⊥
one_member [] e i j = i
one_member (a ∷ []) e (inl i) (inl j) = omega arith
one_member (a ∷ []) e (inl i) (inr j) = j
one_member (a ∷ []) e (inr i) j = i
one_member (a ∷ b ∷ l) e i j = omega arith

pub half_refuted : NotSerial half_seen
unfolding ℕ_discrete
half_refuted first m s =
    let mid = s.in_turn.0 in
    let zero_left : mid 0 ≡ Some 4 = s.in_turn.1.3 0 in
    let one_left : mid 1 ≡ Some 4 = s.in_turn.1.3 1 in
    let seen : Figures (λ r. r ≤ 1) mid 1 4 = s.in_turn.2.0 in
    one_member seen.rows seen.counted ((seen.those 0).1 (omega arith, (4, zero_left))) ((seen.those 1).1 (omega arith, (4, one_left)))
