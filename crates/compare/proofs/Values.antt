-- Values for the classes of variables: what one constraint adds, and what the values say of the solutions of a sheet.
use Rattle.std.proofs.Common.{◌≡◌, ℕ, zero, suc, ◌+◌, ◌<◌, ◌≤◌, Bool, true, false, cond, ◌⊎◌, List, [], ◌∷◌, length, get_or, drop, set, sym, refl, ap, ◌∙◌, subst, inl, inr, arith, length-set, below_more}
use Rattle.std.specs.List.{AllByRecursion}
use Rattle.std.proofs.ByRecursion.{All-get_or, All-from_get_or}
use Rattle.std.proofs.lemmas.List.{get_or-set_same, get_or-set_other}
use Rattle.std.proofs.lemmas.Bool.{eq-eqb, ne_eqb, eqb-true, true≢false, false≢true}
use Rattle.std.proofs.lemmas.Bool.Decides.{eqb_tells}
use Rattle.kinds.specs.declared.condition.Condition.{Condition}
use Rattle.kinds.specs.Meaning.{Meaning, Value, Sound, Under}
use Rattle.kinds.specs.Common.{Met, Meets}
use Rattle.terms.specs.declared.cell.Cell.{Cell}
use Rattle.terms.specs.declared.constraint.Constraint.{Constraint}
use Rattle.terms.specs.Terms.{arity, Subst, apply}
use Rattle.terms.specs.Fitting.{Satisfies}
use Rattle.unification.specs.Fronts.{at, part}
use Rattle.unification.specs.Sheets.{Good, Sol}
use Rattle.unification.specs.Samples.{Fills}
use Rattle.unification.proofs.Theory.{terms_none}
use Rattle.unification.proofs.Places.{part_fix}
use Rattle.compare.specs.declared.classes.Root.{Root}
use Rattle.compare.specs.declared.classes.Root.TheVariants.{Variable, Term}
use Rattle.compare.specs.Roots.{RootOf, root_at, constraint_at, stands_for, on_class, class_conditions}
use Rattle.compare.specs.Settling.{Fill, Settles, Fails, root_of, Unmet, Settled}
use Rattle.compare.proofs.Gathers.{class_one, class_all}

-- the root that the test finds
pub stands_here : (y : ℕ) (r : Root) → r ≡ Variable y → stands_for y r ≡ true
stands_here y r e = ap (stands_for y) e ∙ eq-eqb y y refl

pub stands_true : (y : ℕ) (r : Root) → stands_for y r ≡ true → r ≡ Variable y
stands_true y (Variable z) e = ap Variable (eqb-true z y e)
stands_true y (Term p) e = absurd (false≢true e)

module _ (M : Meaning) (cells : List Cell) (roots : List Root) (ks : List Constraint) where
  -- the condition of a constraint is among those of its class
  first_too : (i y : ℕ) (rest : List Condition) → i < length ks → root_of M cells roots ks i ≡ Variable y → rest ≡ class_conditions roots ks y
      → (l c : ℕ) → Meets M (class_conditions roots ks y) l c → Meets M ((constraint_at ks i).condition ∷ rest) l c
  first_too i y rest h e r l c m =
      (class_one (λ q. Met M q l c) (on_class roots y) ks i h (stands_here y (root_of M cells roots ks i) e) m, subst (λ qs. Meets M qs l c) (sym r) m)

  pub fails_class : (i y : ℕ) (rest : List Condition) → i < length ks → root_of M cells roots ks i ≡ Variable y → rest ≡ class_conditions roots ks y
      → ((l c : ℕ) → Meets M ((constraint_at ks i).condition ∷ rest) l c → ⊥) → Unmet M cells roots ks
  fails_class i y rest h e r f =
      (i, h, subst (Fails M cells roots ks (constraint_at ks i).condition) (sym e) (λ l c m. f l c (first_too i y rest h e r l c m)))

  settles_set : (fills : List Cell) (y : ℕ) (d : Cell) → Fill M cells roots ks (set fills y d) y → (q : Condition) (r : Root)
      → Settles M cells roots ks fills q r → Settles M cells roots ks (set fills y d) q r
  settles_set fills y d new q (Variable z) s = elim (eqb_tells z y) [
    | inl p ↦ subst (Fill M cells roots ks (set fills y d)) (sym p.1) new
    | inr p ↦ record {
      letter = s.letter;
      code = s.code;
      is = get_or-set_other fills y z d (record { letter = 0; number = 0 }) p.1 ∙ s.is;
      meets = s.meets;
      least = s.least;
    }
  ]
  settles_set fills y d new q (Term p) s = s

  -- the class of one constraint more has its fill
  pub settled_class : (fills : List Cell) (i y l n : ℕ) (rest : List Condition) → i < length ks → y < 16 → root_of M cells roots ks i ≡ Variable y → rest ≡ class_conditions roots ks y
      → Meets M ((constraint_at ks i).condition ∷ rest) l n → ((m c : ℕ) → Meets M ((constraint_at ks i).condition ∷ rest) m c → (m ≡ l) × (n ≤ c))
      → Settled M cells roots ks fills i → Settled M cells roots ks (set fills y (record { letter = l; number = n })) (i + 1)
  settled_class fills i y l n rest h small e r m least t =
      let d : Cell = record { letter = l; number = n } in
      let new : Fill M cells roots ks (set fills y d) y = record {
        letter = l;
        code = n;
        is = get_or-set_same fills y d (record { letter = 0; number = 0 }) (omega (arith, t.long));
        meets = subst (λ qs. Meets M qs l n) r m.1;
        least = λ a c k. least a c (first_too i y rest h e r a c k);
      } in
      record {
        long = length-set fills y d ∙ t.long;
        each = below_more (λ (k : ℕ). Settles M cells roots ks (set fills y d) (constraint_at ks k).condition (root_of M cells roots ks k)) i
            (λ k b. settles_set fills y d new (constraint_at ks k).condition (root_of M cells roots ks k) (t.each k b))
            (subst (Settles M cells roots ks (set fills y d) (constraint_at ks i).condition) (sym e) new);
        others = λ z b none.
            get_or-set_other fills y z d (record { letter = 0; number = 0 }) (λ p. none i (omega arith) (e ∙ ap Variable (sym p)))
            ∙ t.others z b (λ k q. none k (omega arith));
      }

  pub settled_term : (fills : List Cell) (i p : ℕ) → root_of M cells roots ks i ≡ Term p → Met M (constraint_at ks i).condition (at cells p).letter (at cells p).number
      → Settled M cells roots ks fills i → Settled M cells roots ks fills (i + 1)
  settled_term fills i p e m t = record {
    long = t.long;
    each = below_more (λ (k : ℕ). Settles M cells roots ks fills (constraint_at ks k).condition (root_of M cells roots ks k)) i t.each
        (subst (Settles M cells roots ks fills (constraint_at ks i).condition) (sym e) m);
    others = λ z b none. t.others z b (λ k q. none k (omega arith));
  }

  -- some constraint is on the class of y, or none is
  pub some_or_none : (y n : ℕ) → ((k : ℕ) × (k < n) × (root_of M cells roots ks k ≡ Variable y)) ⊎ ((k : ℕ) → k < n → root_of M cells roots ks k ≡ Variable y → ⊥)
  some_or_none y zero = inr (λ k l e. omega arith)
  some_or_none y (suc n) = elim (some_or_none y n) [
    | inl p ↦ inl (p.0, omega (arith, p.1), p.2)
    | inr p ↦ here (stands_for y (root_of M cells roots ks n)) refl p
  ]
    where
      here : (b : Bool) → stands_for y (root_of M cells roots ks n) ≡ b → ((k : ℕ) → k < n → root_of M cells roots ks k ≡ Variable y → ⊥)
          → ((k : ℕ) × (k < suc n) × (root_of M cells roots ks k ≡ Variable y)) ⊎ ((k : ℕ) → k < suc n → root_of M cells roots ks k ≡ Variable y → ⊥)
      here true e p = inl (n, omega arith, stands_true y (root_of M cells roots ks n) e)
      here false e p = inr (λ k l r. elim (eqb_tells k n) [
        | inl z ↦ true≢false (sym (stands_here y (root_of M cells roots ks n) (ap (root_of M cells roots ks) (sym z.1) ∙ r)) ∙ e)
        | inr z ↦ p k (omega (arith, z.1)) r
      ])

  -- the letter of a value that meets a condition is no symbol's
  pub met_value : Sound M → (q : Condition) (l c : ℕ) → Met M q l c → Value M l c
  met_value s q l c m = s.values q l c m.0 m.1

  met_letter : Sound M → (q : Condition) (l c : ℕ) → Met M q l c → l ≡ 83 → ⊥
  met_letter s q l c m e = absurd (subst (λ o. Under o c) s.no_symbol (subst (λ (k : ℕ). Value M k c) e (met_value s q l c m)))

  module _ (sig : List ℕ) (sheet : List Cell) (g : Good sig cells) (named : (k : ℕ) → k < length ks → (constraint_at ks k).variable < 16)
      (rooted : (x : ℕ) → x < 16 → RootOf sig cells sheet x (root_at roots x)) where
    abbrev pub MetBy : Subst → Constraint → Type 0
    MetBy σ k = Satisfies M k.condition (σ k.variable)

    root_is : (k : ℕ) → k < length ks → RootOf sig cells sheet (constraint_at ks k).variable (root_of M cells roots ks k)
    root_is k l = rooted (constraint_at ks k).variable (named k l)

    met_at : (σ : Subst) → AllByRecursion (MetBy σ) ks → (k : ℕ) → k < length ks → MetBy σ (constraint_at ks k)
    met_at σ m k l = All-get_or (MetBy σ) ks k (record { variable = 0; condition = record { form = 0; a = 0; b = 0 } }) l m

    no_fail : (σ : Subst) → Sol sig cells sheet σ → AllByRecursion (MetBy σ) ks → (i : ℕ) → i < length ks → (r : Root) → root_of M cells roots ks i ≡ r
        → RootOf sig cells sheet (constraint_at ks i).variable r → Fails M cells roots ks (constraint_at ks i).condition r → ⊥
    no_fail σ s m i h (Variable y) e ro f =
        let one = met_at σ m i h in
        let l : ℕ = one.0 in
        let c : ℕ = one.1 in
        let at_y : σ y ≡ record { letter = l; number = c } ∷ [] = sym (ro.2 σ s) ∙ one.2 in
        f l c (class_all (λ q. Met M q l c) (on_class roots y) ks (λ k b t.
        (let two = met_at σ m k b in
        let r : root_of M cells roots ks k ≡ Variable y = stands_true y (root_of M cells roots ks k) t in
        let rk : RootOf sig cells sheet (constraint_at ks k).variable (Variable y) = subst (RootOf sig cells sheet (constraint_at ks k).variable) r (root_is k b) in
        let q : record { letter = two.0; number = two.1 } ∷ [] ≡ record { letter = l; number = c } ∷ [] = sym two.2 ∙ rk.2 σ s ∙ at_y in
        let d : ◌≡◌ {A = Cell} (record { letter = two.0; number = two.1 }) (record { letter = l; number = c }) = cc in
        subst (λ (z : Cell). Met M (constraint_at ks k).condition z.letter z.number) d two.3)))
    no_fail σ s m i h (Term p) e ro f =
        let one = met_at σ m i h in
        let q : at cells p ∷ apply σ (part sig cells (p + 1) (arity sig (at cells p))) ≡ record { letter = one.0; number = one.1 } ∷ [] =
        sym (part_fix sig cells p σ (g.whole p ro.0) ro.1) ∙ sym (ro.2 σ s) ∙ one.2 in
        let d : at cells p ≡ record { letter = one.0; number = one.1 } = cc in
        f (subst (λ (z : Cell). Met M (constraint_at ks i).condition z.letter z.number) (sym d) one.3)

    -- where some constraint cannot be met, no solution meets them all
    pub unmet : Unmet M cells roots ks → (σ : Subst) → Sol sig cells sheet σ → AllByRecursion (MetBy σ) ks → ⊥
    unmet u σ s m = no_fail σ s m u.0 u.1 (root_of M cells roots ks u.0) refl (root_is u.0 u.1) u.2

    met_one : Sound M → (fills : List Cell) (σ : Subst) → Sol sig cells sheet σ → Fills cells sheet fills σ → (k : ℕ) → k < length ks → (r : Root) → root_of M cells roots ks k ≡ r
        → RootOf sig cells sheet (constraint_at ks k).variable r → Settles M cells roots ks fills (constraint_at ks k).condition r → MetBy σ (constraint_at ks k)
    met_one sound fills σ s f k h (Variable y) e ro w = (
      w.letter,
      w.code,
      ro.2 σ s ∙ f y ro.0 ro.1 ∙ ap (λ (d : Cell). d ∷ []) w.is,
      class_one (λ q. Met M q w.letter w.code) (on_class roots y) ks k h (stands_here y (root_of M cells roots ks k) e) w.meets,
    )
    met_one sound fills σ s f k h (Term p) e ro w =
        let z : arity sig (at cells p) ≡ 0 =
        ap (λ (x : Bool). cond x (get_or sig (at cells p).number 0) 0) (ne_eqb (at cells p).letter 83 (met_letter sound (constraint_at ks k).condition (at cells p).letter (at cells p).number w)) in (
          (at cells p).letter,
          (at cells p).number,
          ro.2 σ s ∙ part_fix sig cells p σ (g.whole p ro.0) ro.1
              ∙ ap (λ (n : ℕ). at cells p ∷ apply σ (part sig cells (p + 1) n)) z
              ∙ ap (λ xs. at cells p ∷ apply σ xs) (terms_none sig (drop (p + 1) cells)),
          w,
        )

    -- where they are settled, a solution with the fills meets them
    pub met_all : Sound M → (fills : List Cell) → Settled M cells roots ks fills (length ks) → (σ : Subst) → Sol sig cells sheet σ → Fills cells sheet fills σ → AllByRecursion (MetBy σ) ks
    met_all sound fills t σ s f = All-from_get_or (MetBy σ) ks (record { variable = 0; condition = record { form = 0; a = 0; b = 0 } })
        (λ k l. met_one sound fills σ s f k l (root_of M cells roots ks k) refl (root_is k l) (t.each k l))
