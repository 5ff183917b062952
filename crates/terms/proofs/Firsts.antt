-- The first arity and the first constraint that are not allowed.
use Rattle.std.proofs.Common.{◌≡◌, ℕ, zero, suc, ◌+◌, ◌<◌, ◌≤◌, ◌⊎◌, List, [], ◌∷◌, length, get_or, take, sym, refl, ap, ◌∙◌, subst, inl, inr, arith}
use Rattle.std.proofs.lemmas.List.{length-take-le, get_or_default, get_or-take}
use Rattle.std.proofs.ByRecursion.{All-more}
use Rattle.refusals.specs.Places.{FirstFault}
use Rattle.refusals.proofs.Places.{agrees_at, fault_at}
use Rattle.kinds.specs.Meaning.{Meaning, Known}
use Rattle.terms.specs.declared.constraint.Constraint.{Constraint}
use Rattle.terms.specs.declared.fault.PatternFault.TheVariants.{Bank, Constraint as ConstraintF}
use Rattle.kinds.specs.declared.fault.BankFault.TheVariants.{Condition as BadCondition}
use Rattle.terms.specs.Reading.{ConstraintsRefused}
use Rattle.terms.specs.Proper.{Arities, Constrains, Constraints}

-- arities, one symbol more
nought_more : (ns : List ℕ) (i : ℕ) → i < length ns → get_or (take i ns) 0 0 ≡ 0 → (i ≡ 0 → get_or ns i 0 ≡ 0) → get_or (take (i + 1) ns) 0 0 ≡ 0
nought_more [] i l e f = absurd (omega arith)
nought_more (n ∷ ns) zero l e f = f refl
nought_more (n ∷ ns) (suc i) l e f = get_or-take (suc i + 1) (n ∷ ns) 0 0 (omega arith) ∙ e

pub arities_more : (ns : List ℕ) (i : ℕ) → i < length ns → length ns ≤ 32 → Arities (take i ns) → get_or ns i 0 ≤ 7 → (i ≡ 0 → get_or ns i 0 ≡ 0) → Arities (take (i + 1) ns)
arities_more ns i l few a h z = record {
  few = let e = length-take-le (i + 1) ns (omega arith) in omega arith;
  nought = nought_more ns i l a.nought z;
  small = All-more (λ n. n ≤ 7) ns i 0 l a.small h;
}

pub arities_fault : (ns : List ℕ) (i : ℕ) → i < length ns → Arities (take i ns) → (7 < get_or ns i 0) ⊎ ((i ≡ 0) × (get_or ns i 0 ≡ 0 → ⊥)) → FirstFault Arities ns i
arities_fault ns i l a (inl h) = fault_at (λ n. n ≤ 7) 32 Arities (λ ys p. p.few) (λ ys p. p.small) ns i 0 l a (λ p _. omega arith)
arities_fault ns i l a (inr h) =
    record {
      within = omega arith;
      before = ([], record { few = omega arith; nought = refl; small = tt }, subst (λ (k : ℕ). take k [] ≡ take k ns) (sym h.0) refl);
      here = λ ys p e.
          let b = agrees_at ns ys i l e in
          h.1 (sym (b.1 0) ∙ ap (λ (k : ℕ). get_or ys k 0) h.0 ∙ p.nought);
    }

-- constraints, one more
module _ (M : Meaning) (ks : List Constraint) (i : ℕ) (d : Constraint) (here : i < length ks) (before : Constraints M (take i ks)) where
  pub constraints_more : i < 8 → Constrains M (get_or ks i d) → Constraints M (take (i + 1) ks)
  constraints_more l h = record {
    few = let e = length-take-le (i + 1) ks (omega arith) in omega arith;
    each = All-more (Constrains M) ks i d here before.each h;
  }

  pub constraints_fault : (Constrains M (get_or ks i d) → i < 8 → ⊥) → FirstFault (Constraints M) ks i
  constraints_fault bad = fault_at (Constrains M) 8 (Constraints M) (λ ys p. p.few) (λ ys p. p.each) ks i d here before bad

  pub constraint_refused : (8 ≤ i) ⊎ (8 ≤ (get_or ks i d).variable) → ConstraintsRefused M ks (ConstraintF i)
  constraint_refused h = record {
    place = i;
    first = constraints_fault (λ p l. elim h [ inl a ↦ omega arith | inr a ↦ omega (arith, p.0) ]);
    fault = inl (
      refl,
      elim h [
        | inl a ↦ inl a
        | inr a ↦ inr (λ e. subst (λ (k : Constraint). 8 ≤ k.variable) (get_or_default ks i d e here) a)
      ],
    );
  }

  pub condition_refused : i < 8 → (get_or ks i d).variable < 8 → (Known M (get_or ks i d).condition → ⊥) → ConstraintsRefused M ks (Bank (BadCondition i))
  condition_refused l v h = record {
    place = i;
    first = constraints_fault (λ p _. h p.1);
    fault = inr (refl, l, λ e. subst (λ (k : Constraint). k.variable < 8) (get_or_default ks i d e here) v);
  }
