-- The worked cases.
use Rattle.std.proofs.Common.{◌≡◌, ℕ, suc, ◌≤◌, ◌⊎◌, List, [], ◌∷◌, ◌++◌, length, Some, sym, refl, ap, ◌∙◌, subst, inl, inr, append-nil, arith}
use Rattle.kinds.specs.declared.condition.Condition.{Condition}
use Rattle.kinds.specs.Common.{Met}
use Rattle.terms.specs.declared.cell.Cell.{Cell}
use Rattle.terms.specs.declared.constraint.Constraint.{Constraint}
use Rattle.terms.specs.Terms.{Subst}
use Rattle.terms.specs.Fitting.{Satisfies, Fits}
use Rattle.unification.proofs.Theory.{unique}
use Rattle.compare.specs.Worked.{bank, arities, S, V, N, H, bare, under, between, other_than, hours_of, classes_of, Apart, Together, WorkedCases}

two_values : Apart (bare (S 2 ∷ V 0 ∷ V 0 ∷ [])) (bare (S 2 ∷ N 1 ∷ N 2 ∷ []))
two_values o =
    let ρ : Subst = o.1.choice in
    let e : S 2 ∷ (ρ 0 ++ (ρ 0 ++ [])) ≡ S 2 ∷ N 1 ∷ N 2 ∷ [] = o.1.makes ∙ sym o.2.makes in
    let f : ρ 0 ++ (ρ 0 ++ []) ≡ (N 1 ∷ []) ++ (N 2 ∷ []) = cc in
    let u = unique arities 1 (ρ 0) (N 1 ∷ []) (ρ 0 ++ []) (N 2 ∷ []) (o.1.ground 0).0 refl f in
    let g : ρ 0 ≡ N 2 ∷ [] = sym (append-nil (ρ 0)) ∙ u.1 in
    let h : N 1 ∷ [] ≡ N 2 ∷ [] = sym u.0 ∙ g in
    let z : ◌≡◌ {A = ℕ} 1 2 = cc in
    omega arith

inside_itself : Apart (bare (S 2 ∷ V 0 ∷ V 0 ∷ [])) (bare (S 2 ∷ V 0 ∷ S 3 ∷ V 0 ∷ []))
inside_itself o =
    let ρ : Subst = o.1.choice in
    let τ : Subst = o.2.choice in
    let e : S 2 ∷ (ρ 0 ++ (ρ 0 ++ [])) ≡ S 2 ∷ (τ 0 ++ (S 3 ∷ (τ 0 ++ []))) = o.1.makes ∙ sym o.2.makes in
    let f : ρ 0 ++ (ρ 0 ++ []) ≡ τ 0 ++ (S 3 ∷ (τ 0 ++ [])) = cc in
    let u = unique arities 1 (ρ 0) (τ 0) (ρ 0 ++ []) (S 3 ∷ (τ 0 ++ [])) (o.1.ground 0).0 (o.2.ground 0).0 f in
    let g : length (τ 0) ≡ suc (length (τ 0)) =
    ap length (sym u.0 ∙ sym (append-nil (ρ 0)) ∙ u.1) ∙ ap (λ cs. suc (length cs)) (append-nil (τ 0)) in
    omega arith

all_free : Together (S 2 ∷ S 0 ∷ S 0 ∷ []) (bare (S 2 ∷ V 0 ∷ V 1 ∷ [])) (bare (S 2 ∷ V 0 ∷ V 0 ∷ []))
all_free = (
  record { choice = λ _. S 0 ∷ []; ground = λ _. (refl, (omega arith, tt)); makes = refl; meets = tt },
  record { choice = λ _. S 0 ∷ []; ground = λ _. (refl, (omega arith, tt)); makes = refl; meets = tt },
)

two_letters : Apart (bare (S 3 ∷ N 7 ∷ [])) (bare (S 3 ∷ H 7 ∷ []))
two_letters o =
    let e : S 3 ∷ N 7 ∷ [] ≡ S 3 ∷ H 7 ∷ [] = o.1.makes ∙ sym o.2.makes in
    let z : ◌≡◌ {A = ℕ} 78 72 = cc in
    omega arith

-- two choices for S3 V0 that make one row are the same
same : (row : List Cell) (ks js : List Constraint) (f : Fits arities bank row (under ks)) (g : Fits arities bank row (under js)) → f.choice 0 ≡ g.choice 0
same row ks js f g =
    let e : S 3 ∷ (f.choice 0 ++ []) ≡ S 3 ∷ (g.choice 0 ++ []) = f.makes ∙ sym g.makes in
    let t : f.choice 0 ++ [] ≡ g.choice 0 ++ [] = cc in
    sym (append-nil (f.choice 0)) ∙ t ∙ append-nil (g.choice 0)

one_cell : (c d : Cell) → c ∷ [] ≡ d ∷ [] → c ≡ d
one_cell c d e = cc

-- what meets another condition too
also : (t : List Cell) (q : Condition) (l c : ℕ) → t ≡ record { letter = l; number = c } ∷ [] → Satisfies bank q t → Met bank q l c
also t q l c e b =
    let d : ◌≡◌ {A = Cell} (record { letter = b.0; number = b.1 }) (record { letter = l; number = c }) =
    one_cell (record { letter = b.0; number = b.1 }) (record { letter = l; number = c }) (sym b.2 ∙ e) in
    subst (λ (x : Cell). Met bank q x.letter x.number) d b.3

number_between : (a b c : ℕ) → (◌≡◌ {A = ℕ} 66 66 × (a ≤ c) × (c ≤ b)) ⊎ (◌≡◌ {A = ℕ} 66 88 × (c ≡ a → ⊥)) → (a ≤ c) × (c ≤ b)
number_between a b c h = elim h [ inl p ↦ (p.1, p.2) | inr p ↦ absurd (let z = p.0 in omega arith) ]

number_other : (a c : ℕ) → (◌≡◌ {A = ℕ} 88 66 × (a ≤ c) × (c ≤ 0)) ⊎ (◌≡◌ {A = ℕ} 88 88 × (c ≡ a → ⊥)) → c ≡ a → ⊥
number_other a c h = elim h [ inl p ↦ absurd (let z = p.0 in omega arith) | inr p ↦ p.1 ]

smallest_of_both : Together (S 3 ∷ N 1 ∷ []) (under (between 1 5 ∷ [])) (under (other_than 3 ∷ []))
smallest_of_both = (
  record {
    choice = λ _. N 1 ∷ [];
    ground = λ _. (refl, (omega arith, tt));
    makes = refl;
    meets = ((78, 1, refl, (refl, (refl, omega arith, inl (refl, omega arith, omega arith)))), tt);
  },
  record {
    choice = λ _. N 1 ∷ [];
    ground = λ _. (refl, (omega arith, tt));
    makes = refl;
    meets = ((78, 1, refl, (refl, (refl, omega arith, inr (refl, (λ e. omega arith))))), tt);
  },
)

none_of_both : Apart (under (between 3 3 ∷ [])) (under (other_than 3 ∷ []))
none_of_both o =
    let a = o.1.meets.0 in
    let s = same o.0 (between 3 3 ∷ []) (other_than 3 ∷ []) o.1 o.2 in
    let b = also (o.2.choice 0) (other_than 3).condition a.0 a.1 (sym s ∙ a.2) o.2.meets.0 in
    let p = number_between 3 3 a.1 a.3.1.2 in
    number_other 3 a.1 b.1.2 (omega (arith, p))

none_of_three : Apart (under (between 1 2 ∷ other_than 1 ∷ [])) (under (other_than 2 ∷ []))
none_of_three o =
    let a = o.1.meets.0 in
    let s = same o.0 (between 1 2 ∷ other_than 1 ∷ []) (other_than 2 ∷ []) o.1 o.2 in
    let b = also (o.1.choice 0) (other_than 1).condition a.0 a.1 a.2 o.1.meets.1.0 in
    let c = also (o.2.choice 0) (other_than 2).condition a.0 a.1 (sym s ∙ a.2) o.2.meets.0 in
    let p = number_between 1 2 a.1 a.3.1.2 in
    let not_one = number_other 1 a.1 b.1.2 in
    let not_two = number_other 2 a.1 c.1.2 in
    omega (arith, p, not_one, not_two)

number_or_class : Apart (under (between 0 9 ∷ [])) (under (classes_of 1 ∷ []))
number_or_class o =
    let a = o.1.meets.0 in
    let s = same o.0 (between 0 9 ∷ []) (classes_of 1 ∷ []) o.1 o.2 in
    let b = also (o.2.choice 0) (classes_of 1).condition a.0 a.1 (sym s ∙ a.2) o.2.meets.0 in
    let x : Some 78 ≡ Some a.0 = a.3.0 in
    let y : Some 67 ≡ Some a.0 = b.0 in
    let z : ◌≡◌ {A = ℕ} 78 67 = cc in
    omega arith

in_the_week : Together (S 3 ∷ H 31 ∷ []) (under (hours_of 31 128 ∷ [])) (bare (S 3 ∷ H 31 ∷ []))
in_the_week = (
  record {
    choice = λ _. H 31 ∷ [];
    ground = λ _. (refl, (omega arith, tt));
    makes = refl;
    meets = ((72, 31, refl, (refl, (refl, omega arith, refl, refl))), tt);
  },
  record { choice = λ _. S 0 ∷ []; ground = λ _. (refl, (omega arith, tt)); makes = refl; meets = tt },
)

at_the_weekend : Apart (under (hours_of 31 128 ∷ [])) (bare (S 3 ∷ H 127 ∷ []))
at_the_weekend o =
    let f = o.1.choice 0 in
    let e : S 3 ∷ (f ++ []) ≡ S 3 ∷ H 127 ∷ [] = o.1.makes ∙ sym o.2.makes in
    let t : f ++ [] ≡ H 127 ∷ [] = cc in
    let m = o.1.meets.0 in
    let d : ◌≡◌ {A = Cell} (record { letter = m.0; number = m.1 }) (H 127) =
    one_cell (record { letter = m.0; number = m.1 }) (H 127) (sym m.2 ∙ sym (append-nil f) ∙ t) in
    let h : Met bank (hours_of 31 128).condition 72 127 = subst (λ (c : Cell). Met bank (hours_of 31 128).condition c.letter c.number) d m.3 in
    let z : ◌≡◌ {A = ℕ} 0 1 = h.1.2 in
    omega arith

pub worked : WorkedCases
worked = record {
  two_values = two_values;
  inside_itself = inside_itself;
  all_free = all_free;
  two_letters = two_letters;
  smallest_of_both = smallest_of_both;
  none_of_both = none_of_both;
  none_of_three = none_of_three;
  number_or_class = number_or_class;
  in_the_week = in_the_week;
  at_the_weekend = at_the_weekend;
}
