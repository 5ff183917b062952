-- The theory of terms as cells: reading, substitution, sequences of bindings.
use Rattle.std.proofs.Common.{◌≡◌, ℕ, zero, suc, ◌+◌, ◌<◌, ◌≤◌, Bool, cond, ◌⊎◌, List, [], ◌∷◌, ◌++◌, length, get_or, drop, sym, refl, ap, ◌∙◌, subst, inl, inr, append_assoc, append-nil, zero-add, arith, length-append}
use mathlib.Core.Path.{fun_ext}
use Rattle.std.proofs.lemmas.Bool.Decides.{eqb_tells}
use Rattle.std.proofs.lemmas.Bool.{eq-eqb, ne_eqb}
use Rattle.std.proofs.Props.{props}
use Rattle.terms.specs.declared.cell.Cell.{Cell}
use Rattle.terms.specs.Terms.{arity, Are, Subst, image, apply}
use Rattle.unification.specs.Fronts.{Begins, terms, after}
use Rattle.unification.specs.Unifiers.{Assign, var, Unifies, MostGeneral, Replacement, single, sequence}
use Rattle.unification.specs.Sheets.{Good}
use Rattle.unification.specs.Sequences.{Lacks, Apart, Proper, Solves}

-- reading
pub terms_are : (sig : List ℕ) (n : ℕ) (cs : List Cell) → Begins sig n cs → Are sig n (terms sig n cs)
terms_are sig n [] h = h
terms_are sig zero (c ∷ cs) h = refl
terms_are sig (suc n) (c ∷ cs) h = terms_are sig (arity sig c + n) cs h

pub terms_after : (sig : List ℕ) (n : ℕ) (cs : List Cell) → terms sig n cs ++ after sig n cs ≡ cs
terms_after sig n [] = refl
terms_after sig zero (c ∷ cs) = refl
terms_after sig (suc n) (c ∷ cs) = ap (λ xs. c ∷ xs) (terms_after sig (arity sig c + n) cs)

pub are_none : (sig : List ℕ) (cs : List Cell) → Are sig 0 cs → cs ≡ []
are_none sig [] h = refl
are_none sig (c ∷ cs) h = absurd h

pub terms_none : (sig : List ℕ) (cs : List Cell) → terms sig 0 cs ≡ []
terms_none sig [] = refl
terms_none sig (c ∷ cs) = refl

pub after_none : (sig : List ℕ) (cs : List Cell) → after sig 0 cs ≡ cs
after_none sig [] = refl
after_none sig (c ∷ cs) = refl

-- unique reading: what begins with n terms begins with just those
pub terms_front : (sig : List ℕ) (n : ℕ) (a r : List Cell) → Are sig n a → terms sig n (a ++ r) ≡ a
terms_front sig n [] r h = rw h (terms_none sig r)
terms_front sig zero (c ∷ a) r h = absurd h
terms_front sig (suc n) (c ∷ a) r h = ap (λ xs. c ∷ xs) (terms_front sig (arity sig c + n) a r h)

pub after_front : (sig : List ℕ) (n : ℕ) (a r : List Cell) → Are sig n a → after sig n (a ++ r) ≡ r
after_front sig n [] r h = rw h (after_none sig r)
after_front sig zero (c ∷ a) r h = absurd h
after_front sig (suc n) (c ∷ a) r h = after_front sig (arity sig c + n) a r h

pub unique : (sig : List ℕ) (n : ℕ) (a b r s : List Cell) → Are sig n a → Are sig n b → a ++ r ≡ b ++ s → (a ≡ b) × (r ≡ s)
unique sig n a b r s h k e = (
  sym (terms_front sig n a r h) ∙ ap (terms sig n) e ∙ terms_front sig n b s k,
  sym (after_front sig n a r h) ∙ ap (after sig n) e ∙ after_front sig n b s k,
)

-- n terms more
pub terms_more : (sig : List ℕ) (m n : ℕ) (cs : List Cell) → terms sig (m + n) cs ≡ terms sig m cs ++ terms sig n (after sig m cs)
terms_more sig m n [] = refl
terms_more sig zero n (c ∷ cs) = rw zero-add
terms_more sig (suc m) n (c ∷ cs) =
    let e : suc m + n ≡ suc (m + n) = omega arith in
    let k : arity sig c + (m + n) ≡ (arity sig c + m) + n = omega arith in
    rw e (rw k (ap (λ xs. c ∷ xs) (terms_more sig (arity sig c + m) n cs)))

pub after_more : (sig : List ℕ) (m n : ℕ) (cs : List Cell) → after sig (m + n) cs ≡ after sig n (after sig m cs)
after_more sig m n [] = refl
after_more sig zero n (c ∷ cs) = rw zero-add
after_more sig (suc m) n (c ∷ cs) =
    let e : suc m + n ≡ suc (m + n) = omega arith in
    let k : arity sig c + (m + n) ≡ (arity sig c + m) + n = omega arith in
    rw e (rw k (after_more sig (arity sig c + m) n cs))

pub begins_front : (sig : List ℕ) (m n : ℕ) (cs : List Cell) → Begins sig (m + n) cs → Begins sig m cs
begins_front sig m n [] h = omega arith
begins_front sig zero n (c ∷ cs) h = tt
begins_front sig (suc m) n (c ∷ cs) h =
    let e : suc m + n ≡ suc (m + n) = omega arith in
    let k : arity sig c + (m + n) ≡ (arity sig c + m) + n = omega arith in
    begins_front sig (arity sig c + m) n cs (rw k at (rw e at h))

pub begins_after : (sig : List ℕ) (m n : ℕ) (cs : List Cell) → Begins sig (m + n) cs → Begins sig n (after sig m cs)
begins_after sig m n [] h = omega arith
begins_after sig zero n (c ∷ cs) h = rw zero-add at h
begins_after sig (suc m) n (c ∷ cs) h =
    let e : suc m + n ≡ suc (m + n) = omega arith in
    let k : arity sig c + (m + n) ≡ (arity sig c + m) + n = omega arith in
    begins_after sig (arity sig c + m) n cs (rw k at (rw e at h))

pub begins_length : (sig : List ℕ) (n : ℕ) (cs : List Cell) → Begins sig n cs → n ≤ length cs
begins_length sig n [] h = omega arith
begins_length sig zero (c ∷ cs) h = omega arith
begins_length sig (suc n) (c ∷ cs) h =
    let k : arity sig c + n ≤ length cs = begins_length sig (arity sig c + n) cs h in omega arith

-- where cells are m terms, from each place on they are some terms
pub are_begins : (sig : List ℕ) (n : ℕ) (cs : List Cell) → Are sig n cs → Begins sig n cs
are_begins sig n [] h = h
are_begins sig zero (c ∷ cs) h = tt
are_begins sig (suc n) (c ∷ cs) h = are_begins sig (arity sig c + n) cs h

pub begins_at : (sig : List ℕ) (n k : ℕ) (cs : List Cell) → Are sig n cs → k < length cs → Begins sig 1 (drop k cs)
begins_at sig n zero [] h l = absurd (omega arith)
begins_at sig n (suc k) [] h l = absurd (omega arith)
begins_at sig zero zero (c ∷ cs) h l = absurd h
begins_at sig zero (suc k) (c ∷ cs) h l = absurd h
begins_at sig (suc n) zero (c ∷ cs) h l =
    let e : 1 + n ≡ suc n = omega arith in
    begins_front sig 1 n (c ∷ cs) (rw e (are_begins sig (suc n) (c ∷ cs) h))
begins_at sig (suc n) (suc k) (c ∷ cs) h l = begins_at sig (arity sig c + n) k cs h (omega arith)

-- substitution
pub image_var : (σ : Subst) (c : Cell) → c.letter ≡ 86 → image σ c ≡ σ c.number
image_var σ c h = ap (λ (b : Bool). cond b (σ c.number) (c ∷ [])) (eq-eqb c.letter 86 h)

pub image_fix : (σ : Subst) (c : Cell) → (c.letter ≡ 86 → ⊥) → image σ c ≡ c ∷ []
image_fix σ c h = ap (λ (b : Bool). cond b (σ c.number) (c ∷ [])) (ne_eqb c.letter 86 h)

pub arity_var : (sig : List ℕ) (c : Cell) → c.letter ≡ 86 → arity sig c ≡ 0
arity_var sig c h = ap (λ (b : Bool). cond b (get_or sig c.number 0) 0) (ne_eqb c.letter 83 (omega arith))

pub apply-++ : (σ : Subst) (a b : List Cell) → apply σ (a ++ b) ≡ apply σ a ++ apply σ b
apply-++ σ [] b = refl
apply-++ σ (c ∷ a) b = ap (λ xs. image σ c ++ xs) (apply-++ σ a b) ∙ sym (append_assoc (image σ c) (apply σ a) (apply σ b))

pub are_more : (sig : List ℕ) (m n : ℕ) (a b : List Cell) → Are sig m a → Are sig n b → Are sig (m + n) (a ++ b)
are_more sig m n [] b h k = rw h (rw zero-add k)
are_more sig zero n (c ∷ a) b h k = absurd h
are_more sig (suc m) n (c ∷ a) b h k =
    let e : suc m + n ≡ suc (m + n) = omega arith in
    let f : arity sig c + (m + n) ≡ (arity sig c + m) + n = omega arith in
    subst (λ (z : ℕ). Are sig z (c ∷ (a ++ b))) (sym e)
    (subst (λ (z : ℕ). Are sig z (a ++ b)) (sym f) (are_more sig (arity sig c + m) n a b h k))

-- variable or not
pub var_or : (c : Cell) → (c.letter ≡ 86) ⊎ (c.letter ≡ 86 → ⊥)
var_or c = elim (eqb_tells c.letter 86) [ inl p ↦ inl p.1 | inr p ↦ inr p.1 ]

pub are_apply : (sig : List ℕ) (σ : Subst) → Assign sig σ → (n : ℕ) (cs : List Cell) → Are sig n cs → Are sig n (apply σ cs)
are_apply sig σ g n [] h = h
are_apply sig σ g zero (c ∷ cs) h = absurd h
are_apply sig σ g (suc n) (c ∷ cs) h =
    let ih : Are sig (arity sig c + n) (apply σ cs) = are_apply sig σ g (arity sig c + n) cs h in
    elim (var_or c) [
      | inl v ↦
          let z : arity sig c + n ≡ n = omega (arith, arity_var sig c v) in
          let e : 1 + n ≡ suc n = omega arith in
          rw (image_var σ c v) (rw (← e) (are_more sig 1 n (σ c.number) (apply σ cs) (g c.number) (rw z at ih)))
      | inr v ↦ rw (image_fix σ c v) ih
    ]

pub apply_comp : (σ μ : Subst) (cs : List Cell) → apply σ (apply μ cs) ≡ apply (λ x. apply σ (μ x)) cs
apply_comp σ μ [] = refl
apply_comp σ μ (c ∷ cs) =
    apply-++ σ (image μ c) (apply μ cs)
    ∙ ap (λ xs. apply σ (image μ c) ++ xs) (apply_comp σ μ cs)
    ∙ ap (λ xs. xs ++ apply (λ x. apply σ (μ x)) cs) (elim (var_or c) [
      | inl v ↦ ap (apply σ) (image_var μ c v) ∙ sym (image_var (λ x. apply σ (μ x)) c v)
      | inr v ↦ ap (apply σ) (image_fix μ c v) ∙ append-nil (image σ c) ∙ image_fix σ c v ∙ sym (image_fix (λ x. apply σ (μ x)) c v)
    ])

pub apply_ext : (σ τ : Subst) → ((x : ℕ) → σ x ≡ τ x) → (cs : List Cell) → apply σ cs ≡ apply τ cs
apply_ext σ τ h cs = ap (λ (f : Subst). apply f cs) (fun_ext h)

pub cell_var : (c : Cell) → c.letter ≡ 86 → var c.number ≡ c
cell_var c h = λ i. record { letter = sym h i; number = c.number }

-- a single binding leaves cells that lack its variable
pub single_same : (x : ℕ) (t : List Cell) → single x t x ≡ t
single_same x t = ap (λ (b : Bool). cond b t (var x ∷ [])) (eq-eqb x x refl)

pub single_other : (x : ℕ) (t : List Cell) (y : ℕ) → (y ≡ x → ⊥) → single x t y ≡ var y ∷ []
single_other x t y h = ap (λ (b : Bool). cond b t (var y ∷ [])) (ne_eqb y x h)

pub apply_lacks : (x : ℕ) (t cs : List Cell) → Lacks x cs → apply (single x t) cs ≡ cs
apply_lacks x t [] h = refl
apply_lacks x t (c ∷ cs) h =
    ap (λ xs. image (single x t) c ++ xs) (apply_lacks x t cs h.1)
    ∙ ap (λ xs. xs ++ cs) (elim (var_or c) [
      | inl v ↦ image_var (single x t) c v ∙ single_other x t c.number (h.0 v) ∙ ap (λ (d : Cell). d ∷ []) (cell_var c v)
      | inr v ↦ image_fix (single x t) c v
    ])

-- sequences
pub sequence_general : (σ : Subst) (bs : List Replacement) → Solves σ bs → (y : ℕ) → apply σ (sequence bs y) ≡ σ y
sequence_general σ [] h y = append-nil (σ y)
sequence_general σ (b ∷ bs) h y =
    apply_comp σ (sequence bs) (single b.name b.term y)
    ∙ apply_ext (λ x. apply σ (sequence bs x)) σ (sequence_general σ bs h.1) (single b.name b.term y)
    ∙ elim (eqb_tells y b.name) [
      | inl p ↦ ap (apply σ) (ap (λ (t : Bool). cond t b.term (var y ∷ [])) p.0) ∙ sym h.0 ∙ ap σ (sym p.1)
      | inr p ↦ ap (apply σ) (ap (λ (t : Bool). cond t b.term (var y ∷ [])) p.0) ∙ append-nil (σ y)
    ]

pub sequence_assigns : (sig : List ℕ) (bs : List Replacement) → Proper sig bs → Assign sig (sequence bs)
sequence_assigns sig [] h y = refl
sequence_assigns sig (b ∷ bs) h y =
    are_apply sig (sequence bs) (sequence_assigns sig bs h.3) 1 (single b.name b.term y)
    (elim (eqb_tells y b.name) [
      | inl p ↦ rw p.0 h.0
      | inr p ↦ rw p.0 refl
    ])

-- one more binding in front, of a variable that the others lack, keeps them solved
solves_front : (b : Replacement) (all bs : List Replacement) → Apart b.name bs → Solves (sequence all) bs → Solves (sequence (b ∷ all)) bs
solves_front b all [] h k = tt
solves_front b all (d ∷ bs) h k = (
  ap (apply (sequence all)) (single_other b.name b.term d.name h.0)
      ∙ append-nil (sequence all d.name)
      ∙ k.0
      ∙ sym (ap (apply (sequence all)) (apply_lacks b.name b.term d.term h.1))
      ∙ apply_comp (sequence all) (single b.name b.term) d.term,
  solves_front b all bs h.2 k.1,
)

pub sequence_solves : (sig : List ℕ) (bs : List Replacement) → Proper sig bs → Solves (sequence bs) bs
sequence_solves sig [] h = tt
sequence_solves sig (b ∷ bs) h = (
  ap (apply (sequence bs)) (single_same b.name b.term)
      ∙ sym (ap (apply (sequence bs)) (apply_lacks b.name b.term b.term h.1))
      ∙ apply_comp (sequence bs) (single b.name b.term) b.term,
  solves_front b bs bs h.2 (sequence_solves sig bs h.3),
)

-- a proper sequence whose solutions are the unifiers is a most general unifier
pub most_general : (sig : List ℕ) (bs : List Replacement) (s t : List Cell) → Proper sig bs
    → ((σ : Subst) → Assign sig σ → Solves σ bs → Unifies σ s t) → ((σ : Subst) → Assign sig σ → Unifies σ s t → Solves σ bs)
    → MostGeneral sig (sequence bs) s t
most_general sig bs s t p f g = record {
  assigns = sequence_assigns sig bs p;
  unifies = f (sequence bs) (sequence_assigns sig bs p) (sequence_solves sig bs p);
  general = λ σ a u. sequence_general σ bs (g σ a u);
}

-- size: a variable's cells stand within those of a term that has it
pub apply_length : (σ : Subst) (c : Cell) (cs : List Cell) → length (apply σ (c ∷ cs)) ≡ length (image σ c) + length (apply σ cs)
apply_length σ c cs = length-append (image σ c) (apply σ cs)

-- that cells begin with n terms, and that cells are good, is shown in one way at most
begins_prop : (sig : List ℕ) (n : ℕ) (cs : List Cell) → IsProp (Begins sig n cs)
begins_prop sig n [] = hlevel props
begins_prop sig zero (c ∷ cs) = hlevel props
begins_prop sig (suc n) (c ∷ cs) = begins_prop sig (arity sig c + n) cs

pub good_prop : (sig : List ℕ) (cells : List Cell) → IsProp (Good sig cells)
good_prop sig cells = hlevel (props, begins_prop)
