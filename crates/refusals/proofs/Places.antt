-- Where lists first go wrong.
use Rattle.std.proofs.Common.{◌≡◌, ℕ, ◌+◌, ◌<◌, ◌≤◌, List, length, get_or, take, sym, refl, ap, ◌∙◌, subst, ⊎_elim, arith}
use Rattle.std.proofs.lemmas.List.{take-take, length-take, get_or-take}
use Rattle.std.proofs.lemmas.Bool.{cases_order}
use Rattle.std.proofs.ByRecursion.{All-get_or}
use Rattle.std.specs.List.{AllByRecursion}
use Rattle.refusals.specs.Places.{FirstFault}

-- what agrees with xs up to place i has that place too, and the same there
pub agrees_at : {A : Type 0} (xs ys : List A) (i : ℕ) → i < length xs → take (i + 1) ys ≡ take (i + 1) xs → (i < length ys) × ((d : A) → get_or ys i d ≡ get_or xs i d)
agrees_at xs ys i l e = (
  (let p = ap length e in let q = length-take (i + 1) ys in let r = length-take (i + 1) xs in omega arith),
  λ d. sym (get_or-take (i + 1) ys i d (omega arith)) ∙ ap (λ zs. get_or zs i d) e ∙ get_or-take (i + 1) xs i d (omega arith),
)

-- Lists of at most `limit` elements, each with P: the first that is not so, or one too many.
module _ {A : Type 0} (P : A → Type 0) (limit : ℕ) (Proper : List A → Type 0) (few : (ys : List A) → Proper ys → length ys ≤ limit)
    (each : (ys : List A) → Proper ys → AllByRecursion P ys) where
  pub fault_at : (xs : List A) (i : ℕ) (d : A) → i < length xs → Proper (take i xs) → (P (get_or xs i d) → i < limit → ⊥) → FirstFault Proper xs i
  fault_at xs i d l before bad = record {
    within = omega arith;
    before = (take i xs, before, take-take i i xs (omega arith));
    here = λ ys p e.
        let a = agrees_at xs ys i l e in
        let n = few ys p in
        bad (subst P (a.1 d) (All-get_or P ys i d a.0 (each ys p))) (let b = a.0 in omega arith);
  }

module _ {A : Type 0} (Proper : List A → Type 0) (xs : List A) where
  -- what agrees up to j agrees up to a smaller i too
  pub agrees_less : (i j : ℕ) (ys : List A) → i ≤ j → take j ys ≡ take j xs → take i ys ≡ take i xs
  agrees_less i j ys l e = sym (take-take i j ys l) ∙ ap (take i) e ∙ take-take i j xs l

  no_later : (i j : ℕ) → FirstFault Proper xs i → FirstFault Proper xs j → i < j → ⊥
  no_later i j f g l =
      let y = g.before in
      f.here y.0 y.1 (agrees_less (i + 1) j y.0 (omega arith) y.2)

  pub first_one : (i j : ℕ) → FirstFault Proper xs i → FirstFault Proper xs j → i ≡ j
  first_one i j f g =
      ⊎_elim (λ e. e) (⊎_elim (λ l. absurd (no_later i j f g l)) (λ l. absurd (no_later j i g f l))) (cases_order i j)

  pub first_improper : (i : ℕ) → FirstFault Proper xs i → Proper xs → ⊥
  first_improper i f p = f.here xs p refl
