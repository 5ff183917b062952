-- Terms at places of a list of cells.
use Rattle.std.proofs.Common.{◌≡◌, ℕ, zero, suc, ◌+◌, ◌-◌, ◌<◌, ◌≤◌, Bool, true, false, List, [], ◌∷◌, ◌++◌, length, get_or, take, drop, set, sym, refl, ap, ◌∙◌, subst, inl, inr, append-nil, arith, length-append, length-drop}
use Rattle.std.proofs.Math.Seq.{take-append_seam}
use Rattle.std.proofs.lemmas.List.{drop_more, drop-drop, get_or-set_same, get_or-set_other}
use Rattle.std.proofs.lemmas.Bool.Decides.{eqb_tells}
use Rattle.std.proofs.lemmas.Bool.{true≢false}
use Rattle.terms.specs.declared.cell.Cell.{Cell}
use Rattle.terms.specs.Terms.{arity, Subst, image, apply}
use Rattle.unification.specs.Fronts.{Begins, terms, after, at, part}
use Rattle.unification.specs.Sheets.{Good, entry_for, place_in, entry, Sol, Straight, Rooted, Derefs, Level, Merged}
use Rattle.unification.proofs.Theory.{begins_length, begins_front, begins_after, terms_after, terms_more, terms_none, arity_var, image_var, image_fix}

-- the first cell of n terms at a place
pub record Step (sig : List ℕ) (cells : List Cell) (i n : ℕ) : Type 0 where
  pub within : i < length cells
  pub begins : Begins sig (n - 1 + arity sig (at cells i)) (drop (i + 1) cells)
  pub behind : after sig n (drop i cells) ≡ after sig (n - 1 + arity sig (at cells i)) (drop (i + 1) cells)
  pub front : terms sig n (drop i cells) ≡ at cells i ∷ terms sig (n - 1 + arity sig (at cells i)) (drop (i + 1) cells)
  pub few : n - 1 + arity sig (at cells i) + i + 1 ≤ length cells

pub step : (sig : List ℕ) (cells : List Cell) (i n : ℕ) → Begins sig n (drop i cells) → 0 < n → Step sig cells i n
step sig cells i zero h k = absurd (omega arith)
step sig cells i (suc m) h k =
    let l : i < length cells = omega (arith, begins_length sig (suc m) (drop i cells) h, length-drop i cells) in
    let e : drop i cells ≡ at cells i ∷ drop (i + 1) cells = drop_more cells i (record { letter = 0; number = 0 }) l in
    let n : arity sig (at cells i) + m ≡ suc m - 1 + arity sig (at cells i) = omega arith in
    let b : Begins sig (suc m - 1 + arity sig (at cells i)) (drop (i + 1) cells) =
    subst (λ (z : ℕ). Begins sig z (drop (i + 1) cells)) n (subst (Begins sig (suc m)) e h) in
    record {
      within = l;
      begins = b;
      behind = ap (after sig (suc m)) e ∙ ap (λ (z : ℕ). after sig z (drop (i + 1) cells)) n;
      front = ap (terms sig (suc m)) e ∙ ap (λ (z : ℕ). at cells i ∷ terms sig z (drop (i + 1) cells)) n;
      few = omega (arith, begins_length sig (suc m - 1 + arity sig (at cells i)) (drop (i + 1) cells) b, length-drop (i + 1) cells);
    }

-- the one term at a place, by its first cell
pub part_var : (sig : List ℕ) (cells : List Cell) (i : ℕ) (σ : Subst) → Begins sig 1 (drop i cells) → (at cells i).letter ≡ 86
    → apply σ (part sig cells i 1) ≡ σ (at cells i).number
part_var sig cells i σ h v =
    let s = step sig cells i 1 h (omega arith) in
    let z : 1 - 1 + arity sig (at cells i) ≡ 0 = omega (arith, arity_var sig (at cells i) v) in
    ap (apply σ) s.front
    ∙ ap (λ (n : ℕ). image σ (at cells i) ++ apply σ (terms sig n (drop (i + 1) cells))) z
    ∙ ap (λ xs. image σ (at cells i) ++ apply σ xs) (terms_none sig (drop (i + 1) cells))
    ∙ append-nil (image σ (at cells i))
    ∙ image_var σ (at cells i) v

pub part_fix : (sig : List ℕ) (cells : List Cell) (i : ℕ) (σ : Subst) → Begins sig 1 (drop i cells) → ((at cells i).letter ≡ 86 → ⊥)
    → apply σ (part sig cells i 1) ≡ at cells i ∷ apply σ (part sig cells (i + 1) (arity sig (at cells i)))
part_fix sig cells i σ h v =
    let s = step sig cells i 1 h (omega arith) in
    let z : 1 - 1 + arity sig (at cells i) ≡ arity sig (at cells i) = omega arith in
    ap (apply σ) s.front
    ∙ ap (λ (n : ℕ). image σ (at cells i) ++ apply σ (terms sig n (drop (i + 1) cells))) z
    ∙ ap (λ xs. xs ++ apply σ (part sig cells (i + 1) (arity sig (at cells i)))) (image_fix σ (at cells i) v)

-- how many variables are not yet seen
abbrev pub unseen : List Bool → ℕ
unseen [] = 0
unseen (true ∷ bs) = unseen bs
unseen (false ∷ bs) = suc (unseen bs)

pub unseen_set : (bs : List Bool) (x : ℕ) → x < length bs → get_or bs x false ≡ false → suc (unseen (set bs x true)) ≡ unseen bs
unseen_set [] x l h = absurd (omega arith)
unseen_set (true ∷ bs) zero l h = absurd (true≢false h)
unseen_set (false ∷ bs) zero l h = refl
unseen_set (true ∷ bs) (suc x) l h = unseen_set bs x (omega arith) h
unseen_set (false ∷ bs) (suc x) l h = ap suc (unseen_set bs x (omega arith) h)

-- n terms are the first and the others
pub part_split : (sig : List ℕ) (cells : List Cell) (i u n : ℕ) → 0 < n → drop u cells ≡ after sig 1 (drop i cells)
    → part sig cells i n ≡ part sig cells i 1 ++ part sig cells u (n - 1)
part_split sig cells i u n h e =
    let k : n ≡ 1 + (n - 1) = omega arith in
    ap (λ (m : ℕ). part sig cells i m) k ∙ terms_more sig 1 (n - 1) (drop i cells) ∙ ap (λ xs. part sig cells i 1 ++ terms sig (n - 1) xs) (sym e)

pub begins_first : (sig : List ℕ) (cells : List Cell) (i n : ℕ) → 0 < n → Begins sig n (drop i cells) → Begins sig 1 (drop i cells)
begins_first sig cells i n h b =
    let k : n ≡ 1 + (n - 1) = omega arith in
    begins_front sig 1 (n - 1) (drop i cells) (subst (λ (m : ℕ). Begins sig m (drop i cells)) k b)

pub begins_rest : (sig : List ℕ) (cells : List Cell) (i u n : ℕ) → 0 < n → drop u cells ≡ after sig 1 (drop i cells)
    → Begins sig n (drop i cells) → Begins sig (n - 1) (drop u cells)
begins_rest sig cells i u n h e b =
    let k : n ≡ 1 + (n - 1) = omega arith in
    subst (Begins sig (n - 1)) (sym e) (begins_after sig 1 (n - 1) (drop i cells) (subst (λ (m : ℕ). Begins sig m (drop i cells)) k b))

-- binding a free variable
module _ (sig : List ℕ) (cells sheet : List Cell) (x p : ℕ) (long : length sheet ≡ 16) (small : x < 16) (free : length cells ≤ entry sheet x) (within : p < length cells) where
  entry_new : entry (set sheet x (entry_for p)) x ≡ p
  entry_new = ap place_in (get_or-set_same sheet x (entry_for p) (record { letter = 0; number = 0 }) (omega arith))

  entry_old : (y : ℕ) → (y ≡ x → ⊥) → entry (set sheet x (entry_for p)) y ≡ entry sheet y
  entry_old y h = ap place_in (get_or-set_other sheet x y (entry_for p) (record { letter = 0; number = 0 }) h)

  pub sol_set : (σ : Subst) → Sol sig cells sheet σ → σ x ≡ apply σ (part sig cells p 1) → Sol sig cells (set sheet x (entry_for p)) σ
  sol_set σ s e y l b = elim (eqb_tells y x) [
    | inl k ↦ ap σ k.1 ∙ e ∙ ap (λ (m : ℕ). apply σ (part sig cells m 1)) (sym entry_new ∙ ap (entry (set sheet x (entry_for p))) (sym k.1))
    | inr k ↦ s y l (omega (arith, entry_old y k.1)) ∙ ap (λ (m : ℕ). apply σ (part sig cells m 1)) (sym (entry_old y k.1))
  ]

  pub sol_unset : (σ : Subst) → Sol sig cells (set sheet x (entry_for p)) σ → Sol sig cells sheet σ × (σ x ≡ apply σ (part sig cells p 1))
  sol_unset σ s = (
    λ y l b. let k : y ≡ x → ⊥ = λ e. (let f : entry sheet y ≡ entry sheet x = ap (entry sheet) e in omega arith) in
        s y l (omega (arith, entry_old y k)) ∙ ap (λ (m : ℕ). apply σ (part sig cells m 1)) (entry_old y k),
    s x small (omega (arith, entry_new)) ∙ ap (λ (m : ℕ). apply σ (part sig cells m 1)) entry_new,
  )

  pub straight_set : Straight cells sheet → ((at cells p).letter ≡ 86 → (at cells p).number < x) → Straight cells (set sheet x (entry_for p))
  straight_set s h y l b = elim (eqb_tells y x) [
    | inl k ↦ λ v.
        let e : entry (set sheet x (entry_for p)) y ≡ p = ap (entry (set sheet x (entry_for p))) k.1 ∙ entry_new in
        let w : (at cells p).number < x = h (ap (λ (m : ℕ). (at cells m).letter) (sym e) ∙ v) in
        omega (arith, ap (λ (m : ℕ). (at cells m).number) e, k.1)
    | inr k ↦ λ v.
        let e : entry (set sheet x (entry_for p)) y ≡ entry sheet y = entry_old y k.1 in
        let w : (at cells (entry sheet y)).number < y = s y l (omega (arith, e)) (ap (λ (m : ℕ). (at cells m).letter) (sym e) ∙ v) in
        omega (arith, ap (λ (m : ℕ). (at cells m).number) e)
  ]

-- one term
module _ (sig : List ℕ) (cells : List Cell) where
  -- a free variable on one side is bound to the other side
  pub bound_left : (sheet : List Cell) (p q : ℕ) (d : Cell) → d ≡ entry_for q → Good sig cells → length sheet ≡ 16 → Straight cells sheet → Rooted cells sheet p → q < length cells
      → (at cells p).letter ≡ 86 → ((at cells q).letter ≡ 86 → (at cells q).number < (at cells p).number)
      → Merged sig cells sheet (set sheet (at cells p).number d) p q 1
  bound_left sheet p q d is g long s r w v h =
      let x : ℕ = (at cells p).number in
      let l : x < 16 = g.vars p r.0 v in
      subst (λ (d : Cell). Merged sig cells sheet (set sheet (at cells p).number d) p q 1) (sym is) (record {
        straight = straight_set sig cells sheet x q long l (r.1 v) w s h;
        sound = λ σ a t. (
          (sol_unset sig cells sheet x q long l (r.1 v) w σ t).0,
          part_var sig cells p σ (g.whole p r.0) v ∙ (sol_unset sig cells sheet x q long l (r.1 v) w σ t).1,
        );
        full = λ σ a t e. sol_set sig cells sheet x q long l (r.1 v) w σ t (sym (part_var sig cells p σ (g.whole p r.0) v) ∙ e);
      })

  pub turned : (before behind : List Cell) (p q n : ℕ) → Merged sig cells before behind p q n → Merged sig cells before behind q p n
  turned before behind p q n m = record {
    straight = m.straight;
    sound = λ σ a t. ((m.sound σ a t).0, sym (m.sound σ a t).1);
    full = λ σ a t e. m.full σ a t (sym e);
  }

  -- through what the two places stand for
  pub through : (before behind : List Cell) (i j p q : ℕ) → Derefs sig cells before i p → Derefs sig cells before j q
      → Merged sig cells before behind p q 1 → Merged sig cells before behind i j 1
  through before behind i j p q d e m = record {
    straight = m.straight;
    sound = λ σ a t. let k = m.sound σ a t in (k.0, d.means σ k.0 ∙ k.1 ∙ sym (e.means σ k.0));
    full = λ σ a t l. m.full σ a t (sym (d.means σ t) ∙ l ∙ e.means σ t);
  }

  -- equal heads: the arguments
  pub args : (before behind : List Cell) (p q k : ℕ) → Good sig cells → p < length cells → q < length cells → ((at cells p).letter ≡ 86 → ⊥) → at cells p ≡ at cells q
      → k ≡ arity sig (at cells p) → Merged sig cells before behind (p + 1) (q + 1) k → Merged sig cells before behind p q 1
  args before behind p q k g lp lq v e n m =
      let f : (σ : Subst) → apply σ (part sig cells p 1) ≡ at cells p ∷ apply σ (part sig cells (p + 1) k) =
      λ σ. part_fix sig cells p σ (g.whole p lp) v ∙ ap (λ (z : ℕ). at cells p ∷ apply σ (part sig cells (p + 1) z)) (sym n) in
      let h : (σ : Subst) → apply σ (part sig cells q 1) ≡ at cells p ∷ apply σ (part sig cells (q + 1) k) =
      λ σ. part_fix sig cells q σ (g.whole q lq) (λ w. v (ap (λ (c : Cell). c.letter) e ∙ w))
      ∙ ap (λ (c : Cell). c ∷ apply σ (part sig cells (q + 1) (arity sig c))) (sym e)
      ∙ ap (λ (z : ℕ). at cells p ∷ apply σ (part sig cells (q + 1) z)) (sym n) in
      record {
        straight = m.straight;
        sound = λ σ a t. ((m.sound σ a t).0, f σ ∙ ap (λ xs. at cells p ∷ xs) (m.sound σ a t).1 ∙ sym (h σ));
        full = λ σ a t l.
            let w : at cells p ∷ apply σ (part sig cells (p + 1) k) ≡ at cells p ∷ apply σ (part sig cells (q + 1) k) = sym (f σ) ∙ l ∙ h σ in
            m.full σ a t (cc);
      }

  pub level_same : (sheet : List Cell) (p q : ℕ) → Good sig cells → p < length cells → q < length cells → Straight cells sheet
      → (at cells p).letter ≡ 86 → (at cells q).letter ≡ 86 → (at cells p).number ≡ (at cells q).number → Merged sig cells sheet sheet p q 1
  level_same sheet p q g lp lq s v w e = record {
    straight = s;
    sound = λ σ a t. (t, part_var sig cells p σ (g.whole p lp) v ∙ ap σ e ∙ sym (part_var sig cells q σ (g.whole q lq) w));
    full = λ σ a t l. t;
  }

  pub heads_differ : (p q : ℕ) (σ : Subst) → Good sig cells → p < length cells → q < length cells
      → ((at cells p).letter ≡ 86 → ⊥) → ((at cells q).letter ≡ 86 → ⊥) → ((at cells p).letter ≡ (at cells q).letter → (at cells p).number ≡ (at cells q).number → ⊥)
      → Level sig cells p q 1 σ → ⊥
  heads_differ p q σ g lp lq v w d l =
      let e : at cells p ∷ apply σ (part sig cells (p + 1) (arity sig (at cells p))) ≡ at cells q ∷ apply σ (part sig cells (q + 1) (arity sig (at cells q))) =
      sym (part_fix sig cells p σ (g.whole p lp) v) ∙ l ∙ part_fix sig cells q σ (g.whole q lq) w in
      let h : at cells p ≡ at cells q = cc in
      d (ap (λ (c : Cell). c.letter) h) (ap (λ (c : Cell). c.number) h)

-- there is a place behind the first term
pub after_drop : (sig : List ℕ) (n : ℕ) (cs : List Cell) → (u : ℕ) × (drop u cs ≡ after sig n cs)
after_drop sig n [] = (0, refl)
after_drop sig zero (c ∷ cs) = (0, refl)
after_drop sig (suc n) (c ∷ cs) = let k = after_drop sig (arity sig c + n) cs in (suc k.0, k.1)

pub behind : (sig : List ℕ) (cells : List Cell) (i n : ℕ) → 0 < n → Begins sig n (drop i cells) → (u : ℕ) × (drop u cells ≡ after sig 1 (drop i cells))
behind sig cells i n pos b =
    let k = after_drop sig 1 (drop i cells) in
    (i + k.0, sym (drop-drop k.0 i cells) ∙ k.1)

pub begins_args : (sig : List ℕ) (cells : List Cell) (p k : ℕ) → Good sig cells → p < length cells → k ≡ arity sig (at cells p) → Begins sig k (drop (p + 1) cells)
begins_args sig cells p k g l e =
    let s = step sig cells p 1 (g.whole p l) (omega arith) in
    let z : 1 - 1 + arity sig (at cells p) ≡ k = omega (arith, e) in
    subst (λ (m : ℕ). Begins sig m (drop (p + 1) cells)) z s.begins

-- a part, from a place to the place behind it
pub part_to : (sig : List ℕ) (cells : List Cell) (i u : ℕ) → i < u → u ≤ length cells → drop u cells ≡ after sig 1 (drop i cells) → take (u - i) (drop i cells) ≡ part sig cells i 1
part_to sig cells i u l m e =
    let p : List Cell = part sig cells i 1 in
    let whole : p ++ drop u cells ≡ drop i cells = ap (λ zs. p ++ zs) e ∙ terms_after sig 1 (drop i cells) in
    let n : u - i ≡ length p = omega (arith, ap length whole, length-append p (drop u cells), length-drop u cells, length-drop i cells) in
    ap (λ (k : ℕ). take k (drop i cells)) n ∙ ap (take (length p)) (sym whole) ∙ take-append_seam p (drop u cells)
