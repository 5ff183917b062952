-- A sample from the values of the classes.
use Rattle.std.proofs.Common.{◌≡◌, ℕ, ◌+◌, ◌-◌, ◌<◌, ◌≤◌, min, Bool, ltb, List, [], ◌∷◌, ◌++◌, length, get_or, take, drop, replicate, MatchBool, sym, ap, ◌∙◌, subst, inl, inr, append-nil, arith}
use Rattle.std.specs.List.{AllByRecursion}
use Rattle.std.proofs.ByRecursion.{All-get_or, All-from_get_or}
use Rattle.std.proofs.Math.Seq.{take-append-add}
use Rattle.std.proofs.lemmas.List.{get_or_default, get_or_past, take-append-drop, take-append-le, take_all, drop-replicate, take-replicate}
use Rattle.std.proofs.lemmas.Bool.{cases_lt, lt-ltb, le-ltb}
use Rattle.kinds.specs.Meaning.{Meaning, Sound}
use Rattle.kinds.specs.Common.{Met, Meets}
use Rattle.terms.specs.declared.cell.Cell.{Cell}
use Rattle.terms.specs.declared.constraint.Constraint.{Constraint}
use Rattle.terms.specs.Terms.{arity, Fine, Subst, apply}
use Rattle.terms.specs.Fitting.{Ground}
use Rattle.unification.specs.Fronts.{at, part}
use Rattle.unification.specs.Unifiers.{Assign, var, Replacement, sequence}
use Rattle.unification.specs.Sheets.{Good, blank, Sol}
use Rattle.unification.specs.Orders.{Ordered}
use Rattle.unification.specs.Samples.{Fills, Wrote}
use Rattle.unification.specs.Shares.{ClassMeets, Unconstrained, LeastChoice}
use Rattle.unification.proofs.Theory.{sequence_assigns, sequence_solves}
use Rattle.unification.proofs.Cells.{steady, sequence_steady, grounded, nought_ground, value_ground}
use Rattle.unification.proofs.Places.{part_fix}
use Rattle.unification.proofs.Fitting.{filled, filled_free, sequence_free}
use Rattle.compare.specs.declared.classes.Root.{Root}
use Rattle.compare.specs.declared.classes.Root.TheVariants.{Variable, Term}
use Rattle.compare.specs.declared.sample.Sample.{Sample}
use Rattle.compare.specs.Roots.{RootOf, root_at, constraint_at, on_class, class_conditions}
use Rattle.compare.specs.Settling.{Fill, Settles, root_of, Settled}
use Rattle.compare.specs.Answers.{Shows, Drawn}
use Rattle.compare.proofs.Gathers.{class_one, class_all}
use Rattle.compare.proofs.Values.{stands_here, stands_true, some_or_none, met_value, met_all}

-- what was written on a blank row
pub shows : (xs behind : List Cell) (r : ℕ) → Wrote xs (replicate 12 blank) behind 0 r → Shows (record { cells = behind; more = ltb 12 r }) xs
shows xs behind r w =
    let n : ℕ = min 12 (0 + length xs) in
    let front : behind ≡ take 12 xs ++ replicate (12 - n) blank =
    sym (take-append-drop n behind) ∙ ap (λ zs. zs ++ drop n behind) w.cells ∙ ap (λ zs. take 12 xs ++ zs) (w.rest ∙ drop-replicate n 12 blank) in
    elim (cases_lt 12 (length xs)) [
      | inl l ↦ record {
        cells = front ∙ ap (λ (k : ℕ). take 12 xs ++ replicate (12 - k) blank) (let e : n ≡ 12 = omega arith in e) ∙ append-nil (take 12 xs) ∙ sym (take-append-le 12 xs (replicate 12 blank) (omega arith));
        more = subst (λ (b : Bool). MatchBool b (12 < length xs) (length xs ≤ 12)) (sym (lt-ltb 12 r (omega (arith, w.count)))) l;
      }
      | inr l ↦ record {
        cells = front ∙ ap (λ zs. zs ++ replicate (12 - n) blank) (take_all 12 xs l)
            ∙ ap (λ (k : ℕ). xs ++ replicate (12 - k) blank) (let e : n ≡ length xs = omega arith in e)
            ∙ sym (ap (λ (k : ℕ). take k (xs ++ replicate 12 blank)) (let e : 12 ≡ length xs + (12 - length xs) = omega arith in e)
            ∙ take-append-add xs (replicate 12 blank) (12 - length xs) ∙ ap (λ zs. xs ++ zs) (take-replicate (12 - length xs) 12 blank (omega arith)));
        more = subst (λ (b : Bool). MatchBool b (12 < length xs) (length xs ≤ 12)) (sym (le-ltb 12 r (omega (arith, w.count)))) l;
      }
    ]

nought : Cell
nought = record { letter = 83; number = 0 }

-- the choice that the fills make, for every variable
fill_choice : List Cell → Subst
fill_choice fills y = get_or fills y nought ∷ []

module _ (M : Meaning) (cells : List Cell) (roots : List Root) (ks : List Constraint) (sound : Sound M) (sig : List ℕ) (sheet : List Cell) (g : Good sig cells)
    (named : (k : ℕ) → k < length ks → (constraint_at ks k).variable < 16) (rooted : (x : ℕ) → x < 16 → RootOf sig cells sheet x (root_at roots x))
    (fills : List Cell) (t : Settled M cells roots ks fills (length ks)) where
  fill_at : (y : ℕ) → y < 16 → fill_choice fills y ≡ at fills y ∷ []
  unfolding fill_choice
  fill_at y l = ap (λ (d : Cell). d ∷ []) (get_or_default fills y nought (record { letter = 0; number = 0 }) (omega (arith, t.long)))

  -- the fill of a class with constraints
  class_fill : (y k : ℕ) → k < length ks → root_of M cells roots ks k ≡ Variable y → Fill M cells roots ks fills y
  class_fill y k l e = subst (Settles M cells roots ks fills (constraint_at ks k).condition) e (t.each k l)

  fill_ground : get_or sig 0 0 ≡ 0 → (y : ℕ) → Ground sig M (fill_choice fills y)
  unfolding fill_choice nought
  fill_ground z y = elim (cases_lt y 16) [
    | inl l ↦ subst (Ground sig M) (sym (fill_at y l)) (elim (some_or_none M cells roots ks y (length ks)) [
      | inl p ↦
          (let f = class_fill y p.0 p.1 p.2 in
          subst (λ (d : Cell). Ground sig M (d ∷ [])) (sym f.is)
          (value_ground sig M f.letter f.code sound (met_value M cells roots ks sound (constraint_at ks p.0).condition f.letter f.code
          (class_one (λ q. Met M q f.letter f.code) (on_class roots y) ks p.0 p.1 (stands_here y (root_of M cells roots ks p.0) p.2) f.meets))))
      | inr p ↦ subst (λ (d : Cell). Ground sig M (d ∷ [])) (sym (t.others y l p)) (nought_ground sig M z)
    ])
    | inr l ↦ subst (λ (d : Cell). Ground sig M (d ∷ [])) (sym (get_or_past fills y (record { letter = 83; number = 0 }) (omega (arith, t.long)))) (nought_ground sig M z)
  ]

  module _ (bs : List Replacement) (o : Ordered sig cells sheet bs) where
    solved : Sol sig cells sheet (sequence bs)
    solved = o.solved (sequence bs) (sequence_solves sig bs o.proper)

    -- what stands for a free variable is that variable's root
    rooted_here : (x : ℕ) → sequence bs x ≡ var x ∷ [] → (v : ℕ) (r : Root) → RootOf sig cells sheet v r → sequence bs v ≡ sequence bs x → r ≡ Variable x
    rooted_here x f v (Variable z) ro e =
        let q : var z ∷ [] ≡ var x ∷ [] = sym (sequence_free bs z (o.free z ro.1)) ∙ sym (ro.2 (sequence bs) solved) ∙ e ∙ f in
        let d : ◌≡◌ {A = Cell} (var z) (var x) = cc in
        ap Variable (ap (λ (c : Cell). c.number) d)
    rooted_here x f v (Term p) ro e =
        let q : at cells p ∷ apply (sequence bs) (part sig cells (p + 1) (arity sig (at cells p))) ≡ var x ∷ [] =
        sym (part_fix sig cells p (sequence bs) (g.whole p ro.0) ro.1) ∙ sym (ro.2 (sequence bs) solved) ∙ e ∙ f in
        let d : at cells p ≡ var x = cc in
        absurd (ro.1 (ap (λ (c : Cell). c.letter) d))

    root_is : (k : ℕ) → k < length ks → RootOf sig cells sheet (constraint_at ks k).variable (root_of M cells roots ks k)
    root_is k l = rooted (constraint_at ks k).variable (named k l)

    same_class : (x k : ℕ) → k < length ks → root_of M cells roots ks k ≡ Variable x → sequence bs (constraint_at ks k).variable ≡ sequence bs x
    same_class x k l e = (subst (RootOf sig cells sheet (constraint_at ks k).variable) e (root_is k l)).2 (sequence bs) solved

    module _ (x : ℕ) (f : sequence bs x ≡ var x ∷ []) where
      -- the conditions on the class, by roots and by the unifier
      to_roots : (l c : ℕ) → ClassMeets M (sequence bs) ks x l c → Meets M (class_conditions roots ks x) l c
      to_roots l c m = class_all (λ q. Met M q l c) (on_class roots x) ks (λ k b s.
          All-get_or (λ k. sequence bs k.variable ≡ sequence bs x → Met M k.condition l c) ks k (record { variable = 0; condition = record { form = 0; a = 0; b = 0 } }) b m
          (same_class x k b (stands_true x (root_of M cells roots ks k) s)))

      from_roots : (l c : ℕ) → Meets M (class_conditions roots ks x) l c → ClassMeets M (sequence bs) ks x l c
      from_roots l c m = All-from_get_or (λ k. sequence bs k.variable ≡ sequence bs x → Met M k.condition l c) ks (record { variable = 0; condition = record { form = 0; a = 0; b = 0 } })
          (λ k b e. class_one (λ q. Met M q l c) (on_class roots x) ks k b
          (stands_here x (root_of M cells roots ks k) (rooted_here x f (constraint_at ks k).variable (root_of M cells roots ks k) (root_is k b) e)) m)

      unconstrained : ((k : ℕ) → k < length ks → root_of M cells roots ks k ≡ Variable x → ⊥) → Unconstrained (sequence bs) ks x
      unconstrained none = All-from_get_or (λ k. sequence bs k.variable ≡ sequence bs x → ⊥) ks (record { variable = 0; condition = record { form = 0; a = 0; b = 0 } })
          (λ k b e. none k b (rooted_here x f (constraint_at ks k).variable (root_of M cells roots ks k) (root_is k b) e))

      constrained : Unconstrained (sequence bs) ks x → (k : ℕ) → k < length ks → root_of M cells roots ks k ≡ Variable x → ⊥
      constrained u k b e =
          All-get_or (λ k. sequence bs k.variable ≡ sequence bs x → ⊥) ks k (record { variable = 0; condition = record { form = 0; a = 0; b = 0 } }) b u (same_class x k b e)

      least_choice : x < 16 → LeastChoice M (sequence bs) ks x (fill_choice fills x)
      least_choice l = record {
        bare = λ u. fill_at x l ∙ ap (λ (d : Cell). d ∷ []) (t.others x l (constrained u));
        bound = λ n. elim (some_or_none M cells roots ks x (length ks)) [
          | inl p ↦
              (let w = class_fill x p.0 p.1 p.2 in
              record {
                letter = w.letter;
                code = w.code;
                is = fill_at x l ∙ ap (λ (d : Cell). d ∷ []) w.is;
                meets = from_roots w.letter w.code w.meets;
                least = λ a c m. w.least a c (to_roots a c m);
              })
          | inr p ↦ absurd (n (unconstrained p))
        ];
      }

    -- the solution that has the fills at the free variables
    pub drawn : get_or sig 0 0 ≡ 0 → AllByRecursion (Fine M 16) cells → (s : Sample)
        → ((σ : Subst) → Assign sig σ → Sol sig cells sheet σ → Fills cells sheet fills σ → Shows s (apply σ (part sig cells 0 1)))
        → Drawn sig M cells sheet ks (sequence bs) s
    drawn z fine s show =
        let γ : Subst = fill_choice fills in
        let σ : Subst = λ x. apply γ (sequence bs x) in
        let gr : (x : ℕ) → Ground sig M (σ x) =
        λ x. grounded sig M γ (fill_ground z) (sequence bs x) (sequence_assigns sig bs o.proper x) (sequence_steady M sig cells (steady M 16 cells fine) bs o.drawn x) in
        let so : Sol sig cells sheet σ = o.solved σ (filled γ bs bs (sequence_solves sig bs o.proper)) in
        let fi : Fills cells sheet fills σ = λ y l h. filled_free γ bs y (o.free y h) ∙ fill_at y l in
        record {
          choice = σ;
          ground = gr;
          solves = so;
          meets = met_all M cells roots ks sig sheet g named rooted sound fills t σ so fi;
          least = λ x l f. subst (LeastChoice M (sequence bs) ks x) (sym (ap (apply γ) f ∙ append-nil (γ x))) (least_choice x f l);
          shows = show σ (λ x. (gr x).0) so fi;
        }
