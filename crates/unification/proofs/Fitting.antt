-- Rows that fit two patterns, and choices for the variables of both.
use Rattle.std.proofs.Common.{◌≡◌, ℕ, suc, ◌+◌, ◌-◌, ◌<◌, Bool, cond, ltb, List, [], ◌∷◌, ◌++◌, map, get_or, sym, refl, ap, ◌∙◌, subst, inl, inr, append-nil, arith}
use Rattle.std.specs.List.{AllByRecursion}
use Rattle.std.proofs.ByRecursion.{All-append}
use Rattle.std.proofs.lemmas.Bool.{lt-ltb, le-ltb, cases_lt}
use Rattle.kinds.specs.Meaning.{Meaning}
use Rattle.terms.specs.declared.cell.Cell.{Cell}
use Rattle.terms.specs.declared.constraint.Constraint.{Constraint}
use Rattle.terms.specs.Terms.{Fine, Subst, image, apply}
use Rattle.terms.specs.Fitting.{Description, Ground, Satisfies, Fits}
use Rattle.terms.specs.Proper.{Constrains}
use Rattle.unification.specs.Unifiers.{var, Replacement, sequence}
use Rattle.unification.specs.Sequences.{Solves, Unnamed}
use Rattle.unification.specs.Pairs.{shifted, shifted_constraint, Below}
use Rattle.unification.specs.Shares.{Shared}
use Rattle.unification.proofs.Theory.{var_or, image_var, image_fix, apply_comp, apply_ext, single_other}
use Rattle.unification.proofs.Cells.{apply_ground, nought_ground}
use Rattle.unification.proofs.Pairs.{shifted_var, shifted_fix, shifted_letter}

pub apply_under : (n : ℕ) (σ τ : Subst) → ((x : ℕ) → x < n → σ x ≡ τ x) → (cs : List Cell) → Below n cs → apply σ cs ≡ apply τ cs
apply_under n σ τ h [] b = refl
apply_under n σ τ h (c ∷ cs) b =
    ap (λ xs. image σ c ++ xs) (apply_under n σ τ h cs (λ k l v. b (suc k) (omega arith) v))
    ∙ ap (λ xs. xs ++ apply τ cs) (elim (var_or c) [
      | inl v ↦ image_var σ c v ∙ h c.number (b 0 (omega arith) v) ∙ sym (image_var τ c v)
      | inr v ↦ image_fix σ c v ∙ sym (image_fix τ c v)
    ])

pub apply_shifted : (σ : Subst) (cs : List Cell) → apply σ (map shifted cs) ≡ apply (λ x. σ (x + 8)) cs
apply_shifted σ [] = refl
apply_shifted σ (c ∷ cs) =
    ap (λ xs. image σ (shifted c) ++ xs) (apply_shifted σ cs)
    ∙ ap (λ xs. xs ++ apply (λ x. σ (x + 8)) cs) (elim (var_or c) [
      | inl v ↦ image_var σ (shifted c) (shifted_letter c ∙ v) ∙ ap (λ (d : Cell). σ d.number) (shifted_var c v) ∙ sym (image_var (λ x. σ (x + 8)) c v)
      | inr v ↦ ap (image σ) (shifted_fix c v) ∙ image_fix σ c v ∙ sym (image_fix (λ x. σ (x + 8)) c v)
    ])

-- choices for two patterns as one
both : Subst → Subst → Subst
both ρ τ x = cond (ltb x 8) (ρ x) (τ (x - 8))

both_left : (ρ τ : Subst) (x : ℕ) → x < 8 → both ρ τ x ≡ ρ x
unfolding both
both_left ρ τ x h = ap (λ (b : Bool). cond b (ρ x) (τ (x - 8))) (lt-ltb x 8 h)

both_right : (ρ τ : Subst) (x : ℕ) → both ρ τ (x + 8) ≡ τ x
unfolding both
both_right ρ τ x =
    let e : x + 8 - 8 ≡ x = omega arith in
    ap (λ (b : Bool). cond b (ρ (x + 8)) (τ (x + 8 - 8))) (le-ltb (x + 8) 8 (omega arith)) ∙ ap τ e

both_all : (P : List Cell → Type 0) (ρ τ : Subst) → ((x : ℕ) → P (ρ x)) → ((x : ℕ) → P (τ x)) → (x : ℕ) → P (both ρ τ x)
unfolding both
both_all P ρ τ a b x = elim (cases_lt x 8) [
  | inl h ↦ subst P (sym (both_left ρ τ x h)) (a x)
  | inr h ↦ subst P (sym (ap (λ (t : Bool). cond t (ρ x) (τ (x - 8))) (le-ltb x 8 h))) (b (x - 8))
]

-- constraints
all_split : (P : Constraint → Type 0) (xs ys : List Constraint) → AllByRecursion P (xs ++ ys) → AllByRecursion P xs × AllByRecursion P ys
all_split P [] ys h = (tt, h)
all_split P (x ∷ xs) ys h = let k = all_split P xs ys h.1 in ((h.0, k.0), k.1)

module _ (M : Meaning) where
  abbrev MetBy : Subst → Constraint → Type 0
  MetBy σ k = Satisfies M k.condition (σ k.variable)

  meets_left : (ρ τ : Subst) (ks : List Constraint) → AllByRecursion (Constrains M) ks → AllByRecursion (MetBy ρ) ks → AllByRecursion (MetBy (both ρ τ)) ks
  meets_left ρ τ [] c h = tt
  meets_left ρ τ (k ∷ ks) c h =
      (subst (λ (t : List Cell). Satisfies M k.condition t) (sym (both_left ρ τ k.variable c.0.0)) h.0, meets_left ρ τ ks c.1 h.1)

  meets_right : (ρ τ : Subst) (ks : List Constraint) → AllByRecursion (MetBy τ) ks → AllByRecursion (MetBy (both ρ τ)) (map shifted_constraint ks)
  meets_right ρ τ [] h = tt
  meets_right ρ τ (k ∷ ks) h =
      (subst (λ (t : List Cell). Satisfies M k.condition t) (sym (both_right ρ τ k.variable)) h.0, meets_right ρ τ ks h.1)

  unshifted : (σ : Subst) (ks : List Constraint) → AllByRecursion (MetBy σ) (map shifted_constraint ks) → AllByRecursion (MetBy (λ x. σ (x + 8))) ks
  unshifted σ [] h = tt
  unshifted σ (k ∷ ks) h = (h.0, unshifted σ ks h.1)

module _ (sig : List ℕ) (M : Meaning) (left right : Description) where
  -- a row that fits both is made by one choice for both
  pub shared : Below 8 left.cells → AllByRecursion (Constrains M) left.constraints → (row : List Cell) → Fits sig M row left → Fits sig M row right
      → (σ : Subst) × Shared sig M left right σ × (apply σ left.cells ≡ row)
  shared b c row f g =
      let ρ : Subst = f.choice in
      let τ : Subst = g.choice in
      let l : apply (both ρ τ) left.cells ≡ row = apply_under 8 (both ρ τ) ρ (both_left ρ τ) left.cells b ∙ f.makes in (
        both ρ τ,
        record {
          ground = both_all (Ground sig M) ρ τ f.ground g.ground;
          unifies = l ∙ sym g.makes ∙ sym (apply_shifted (both ρ τ) right.cells ∙ apply_ext (λ x. both ρ τ (x + 8)) τ (both_right ρ τ) right.cells);
          meets = All-append (MetBy M (both ρ τ)) left.constraints (map shifted_constraint right.constraints)
              (meets_left M ρ τ left.constraints c f.meets) (meets_right M ρ τ right.constraints g.meets);
        },
        l,
      )

  -- one choice for both makes a row that fits both
  pub fits_left : (σ : Subst) → Shared sig M left right σ → Fits sig M (apply σ left.cells) left
  fits_left σ s = record {
    choice = σ;
    ground = s.ground;
    makes = refl;
    meets = (all_split (MetBy M σ) left.constraints (map shifted_constraint right.constraints) s.meets).0;
  }

  pub fits_right : (σ : Subst) → Shared sig M left right σ → Fits sig M (apply σ left.cells) right
  fits_right σ s = record {
    choice = λ x. σ (x + 8);
    ground = λ x. s.ground (x + 8);
    makes = sym (apply_shifted σ right.cells) ∙ sym s.unifies;
    meets = unshifted M σ right.constraints (all_split (MetBy M σ) left.constraints (map shifted_constraint right.constraints) s.meets).1;
  }

-- a row as a pattern: only the row itself fits
pub row_fits : (sig : List ℕ) (M : Meaning) (row : List Cell) → get_or sig 0 0 ≡ 0 → AllByRecursion (Fine M 0) row → Fits sig M row (record { cells = row; constraints = [] })
row_fits sig M row z f = record {
  choice = λ _. record { letter = 83; number = 0 } ∷ [];
  ground = λ _. nought_ground sig M z;
  makes = apply_ground M (λ _. record { letter = 83; number = 0 } ∷ []) row f;
  meets = tt;
}

pub only_row : (sig : List ℕ) (M : Meaning) (row other : List Cell) → AllByRecursion (Fine M 0) row → Fits sig M other (record { cells = row; constraints = [] }) → other ≡ row
only_row sig M row other f h = sym h.makes ∙ apply_ground M h.choice row f

-- terms for what is left free give a solution, which has those terms there
pub filled : (γ : Subst) (bs cs : List Replacement) → Solves (sequence cs) bs → Solves (λ x. apply γ (sequence cs x)) bs
filled γ [] cs h = tt
filled γ (b ∷ bs) cs h = (ap (apply γ) h.0 ∙ apply_comp γ (sequence cs) b.term, filled γ bs cs h.1)

pub sequence_free : (bs : List Replacement) (y : ℕ) → Unnamed y bs → sequence bs y ≡ var y ∷ []
sequence_free [] y h = refl
sequence_free (b ∷ bs) y h =
    ap (apply (sequence bs)) (single_other b.name b.term y (λ e. h.0 (sym e)))
    ∙ append-nil (sequence bs y) ∙ sequence_free bs y h.1

pub filled_free : (γ : Subst) (bs : List Replacement) (y : ℕ) → Unnamed y bs → apply γ (sequence bs y) ≡ γ y
filled_free γ bs y h = ap (apply γ) (sequence_free bs y h) ∙ append-nil (γ y)
