-- What is known of each cell, and what substitution keeps of it.
use Rattle.std.proofs.Common.{◌≡◌, ℕ, zero, suc, ◌+◌, ◌<◌, Bool, true, false, cond, eqb, List, [], ◌∷◌, ◌++◌, length, get_or, drop, MatchBool, sym, refl, ap, ◌∙◌, subst, inl, inr, arith}
use Rattle.std.specs.List.{AllByRecursion}
use Rattle.std.proofs.ByRecursion.{All-append, All-get_or, All-from_get_or, All-drop, All-weaker}
use Rattle.std.proofs.lemmas.Bool.{eq-eqb, ne_eqb}
use Rattle.std.proofs.lemmas.Bool.Decides.{eqb_tells}
use Rattle.kinds.specs.Meaning.{Meaning, Value, Sound, Under}
use Rattle.terms.specs.declared.cell.Cell.{Cell}
use Rattle.terms.specs.Terms.{arity, Are, Fine, Subst, image, apply}
use Rattle.terms.specs.Fitting.{Ground}
use Rattle.unification.specs.Fronts.{terms, at, part}
use Rattle.unification.specs.Unifiers.{var, Replacement, single, sequence}
use Rattle.unification.specs.Sheets.{Good}
use Rattle.unification.specs.Pairs.{Below}
use Rattle.unification.proofs.Theory.{var_or, image_var, image_fix, are_apply}

-- a variable is below the bound, and any other cell is fine under every bound
pub fine_var : (M : Meaning) (v : ℕ) (c : Cell) → Fine M v c → c.letter ≡ 86 → c.number < v
fine_var M v c f e =
    let a : eqb c.letter 83 ≡ false = ne_eqb c.letter 83 (omega arith) in
    let b : eqb c.letter 86 ≡ true = eq-eqb c.letter 86 e in
    subst (λ (t : Bool). MatchBool t (c.number < v) (Value M c.letter c.number)) b
    (subst (λ (t : Bool). MatchBool t (c.number < 32) (MatchBool (eqb c.letter 86) (c.number < v) (Value M c.letter c.number))) a f)

pub fine_other : (M : Meaning) (v w : ℕ) (c : Cell) → Fine M v c → (c.letter ≡ 86 → ⊥) → Fine M w c
fine_other M v w c f h =
    let b : eqb c.letter 86 ≡ false = ne_eqb c.letter 86 h in
    subst (λ (t : Bool). MatchBool (eqb c.letter 83) (c.number < 32) (MatchBool t (c.number < w) (Value M c.letter c.number))) (sym b)
    (subst (λ (t : Bool). MatchBool (eqb c.letter 83) (c.number < 32) (MatchBool t (c.number < v) (Value M c.letter c.number))) b f)

pub fine_as_var : (M : Meaning) (w : ℕ) (c : Cell) → c.letter ≡ 86 → c.number < w → Fine M w c
fine_as_var M w c e l =
    let a : eqb c.letter 83 ≡ false = ne_eqb c.letter 83 (omega arith) in
    let b : eqb c.letter 86 ≡ true = eq-eqb c.letter 86 e in
    subst (λ (t : Bool). MatchBool t (c.number < 32) (MatchBool (eqb c.letter 86) (c.number < w) (Value M c.letter c.number))) (sym a)
    (subst (λ (t : Bool). MatchBool t (c.number < w) (Value M c.letter c.number)) (sym b) l)

pub fine_below : (M : Meaning) (n : ℕ) (cs : List Cell) → AllByRecursion (Fine M n) cs → Below n cs
fine_below M n cs h k l v = fine_var M n (at cs k) (All-get_or (Fine M n) cs k (record { letter = 0; number = 0 }) l h) v

-- all but the variables are symbols and known values
abbrev pub Steady : Meaning → Cell → Type 0
Steady M c = (c.letter ≡ 86 → ⊥) → Fine M 0 c

pub steady : (M : Meaning) (v : ℕ) (cs : List Cell) → AllByRecursion (Fine M v) cs → AllByRecursion (Steady M) cs
steady M v cs h = All-weaker (Fine M v) (Steady M) (λ c f n. fine_other M v 0 c f n) cs h

pub all_apply : (P : Cell → Type 0) (σ : Subst) → ((x : ℕ) → AllByRecursion P (σ x)) → (cs : List Cell) → AllByRecursion (λ c. (c.letter ≡ 86 → ⊥) → P c) cs → AllByRecursion P (apply σ cs)
all_apply P σ h [] k = tt
all_apply P σ h (c ∷ cs) k = All-append P (image σ c) (apply σ cs)
    (elim (var_or c) [
      | inl v ↦ subst (AllByRecursion P) (sym (image_var σ c v)) (h c.number)
      | inr v ↦ subst (AllByRecursion P) (sym (image_fix σ c v)) (k.0 v, tt)
    ])
    (all_apply P σ h cs k.1)

pub all_terms : (P : Cell → Type 0) (sig : List ℕ) (n : ℕ) (cs : List Cell) → AllByRecursion P cs → AllByRecursion P (terms sig n cs)
all_terms P sig n [] h = tt
all_terms P sig zero (c ∷ cs) h = tt
all_terms P sig (suc n) (c ∷ cs) h = (h.0, all_terms P sig (arity sig c + n) cs h.1)

-- the variables of a part are the cells' own
pub part_vars : (sig : List ℕ) (cells : List Cell) (i k : ℕ) → Good sig cells → k < length (part sig cells i 1) → (at (part sig cells i 1) k).letter ≡ 86 → (at (part sig cells i 1) k).number < 16
part_vars sig cells i k g l =
    let Small : Cell → Type 0 = λ c. c.letter ≡ 86 → c.number < 16 in
    let none : Cell = record { letter = 0; number = 0 } in
    All-get_or Small (part sig cells i 1) k none l (all_terms Small sig 1 (drop i cells) (All-drop Small i cells (All-from_get_or Small cells none g.vars)))

-- a sequence whose terms stand among steady cells keeps them steady
pub sequence_steady : (M : Meaning) (sig : List ℕ) (cells : List Cell) → AllByRecursion (Steady M) cells → (bs : List Replacement)
    → AllByRecursion (λ b. (p : ℕ) × (b.term ≡ part sig cells p 1)) bs → (y : ℕ) → AllByRecursion (Steady M) (sequence bs y)
sequence_steady M sig cells s [] h y = ((λ n. absurd (n refl)), tt)
sequence_steady M sig cells s (b ∷ bs) h y =
    let one : AllByRecursion (Steady M) (single b.name b.term y) = elim (eqb_tells y b.name) [
      | inl p ↦ subst (AllByRecursion (Steady M)) (sym (ap (λ (t : Bool). cond t b.term (var y ∷ [])) p.0))
          (subst (AllByRecursion (Steady M)) (sym h.0.1) (all_terms (Steady M) sig 1 (drop h.0.0 cells) (All-drop (Steady M) h.0.0 cells s)))
      | inr p ↦ subst (AllByRecursion (Steady M)) (sym (ap (λ (t : Bool). cond t b.term (var y ∷ [])) p.0)) ((λ n. absurd (n refl)), tt)
    ] in
    all_apply (Steady M) (sequence bs) (sequence_steady M sig cells s bs h.1) (single b.name b.term y)
    (All-weaker (Steady M) (λ c. (c.letter ≡ 86 → ⊥) → Steady M c) (λ c k n. k) (single b.name b.term y) one)

-- variable-free terms for what is left free make every term variable-free
pub grounded : (sig : List ℕ) (M : Meaning) (γ : Subst) → ((x : ℕ) → Ground sig M (γ x)) → (cs : List Cell) → Are sig 1 cs → AllByRecursion (Steady M) cs → Ground sig M (apply γ cs)
grounded sig M γ g cs a s = (are_apply sig γ (λ x. (g x).0) 1 cs a, all_apply (Fine M 0) γ (λ x. (g x).1) cs s)

-- cells without variables stay
pub apply_ground : (M : Meaning) (σ : Subst) (cs : List Cell) → AllByRecursion (Fine M 0) cs → apply σ cs ≡ cs
apply_ground M σ [] h = refl
apply_ground M σ (c ∷ cs) h =
    ap (λ xs. image σ c ++ xs) (apply_ground M σ cs h.1)
    ∙ ap (λ xs. xs ++ cs) (image_fix σ c (λ v. (let l : c.number < 0 = fine_var M 0 c h.0 v in omega arith)))

-- the symbol 0 is such a term
pub nought_ground : (sig : List ℕ) (M : Meaning) → get_or sig 0 0 ≡ 0 → Ground sig M (record { letter = 83; number = 0 } ∷ [])
nought_ground sig M z = (subst (λ (k : ℕ). Are sig (k + 0) []) (sym z) refl, (omega arith, tt))

-- and so is a known value
pub value_ground : (sig : List ℕ) (M : Meaning) (l c : ℕ) → Sound M → Value M l c → Ground sig M (record { letter = l; number = c } ∷ [])
value_ground sig M l c s v =
    let ns : l ≡ 83 → ⊥ = λ e. absurd (subst (λ o. Under o c) s.no_symbol (subst (λ (k : ℕ). Value M k c) e v)) in
    let nv : l ≡ 86 → ⊥ = λ e. absurd (subst (λ o. Under o c) s.no_variable (subst (λ (k : ℕ). Value M k c) e v)) in (
      subst (λ (k : ℕ). Are sig (k + 0) []) (sym (ap (λ (t : Bool). cond t (get_or sig c 0) 0) (ne_eqb l 83 ns))) refl,
      (
        subst (λ (t : Bool). MatchBool t (c < 32) (MatchBool (eqb l 86) (c < 0) (Value M l c))) (sym (ne_eqb l 83 ns))
            (subst (λ (t : Bool). MatchBool t (c < 0) (Value M l c)) (sym (ne_eqb l 86 nv)) v),
        tt,
      ),
    )
