-- The steps of a comparison of n terms at one place with n terms at another.
use Rattle.std.proofs.Common.{◌≡◌, ℕ, suc, ◌+◌, ◌-◌, ◌<◌, Bool, true, false, List, ◌∷◌, ◌++◌, length, get_or, drop, set, sym, ap, ◌∙◌, subst, inl, inr, arith, length-append}
use Rattle.std.proofs.lemmas.List.{get_or-set_other}
use Rattle.std.proofs.lemmas.Bool.Decides.{eqb_tells}
use Rattle.terms.specs.declared.cell.Cell.{Cell}
use Rattle.terms.specs.Terms.{arity, Subst, image, apply}
use Rattle.unification.specs.Fronts.{Begins, after, at, part}
use Rattle.unification.specs.Unifiers.{Assign}
use Rattle.unification.specs.Sheets.{Good, Straight, Derefs, Level, Inside, Merged, Clash, Stepped, Names}
use Rattle.unification.proofs.Theory.{terms_are, terms_none, image_fix, apply-++, are_apply, unique}
use Rattle.unification.proofs.Places.{step, part_split, begins_first, behind, part_var, part_fix}

module _ (sig : List ℕ) (cells : List Cell) where
  -- nothing to compare
  pub none : (sheet : List Cell) (i j n : ℕ) → n ≡ 0 → Straight cells sheet → Merged sig cells sheet sheet i j n
  none sheet i j n z s =
      let e : (σ : Subst) → Level sig cells i j n σ =
      λ σ. rw z (ap (apply σ) (terms_none sig (drop i cells) ∙ sym (terms_none sig (drop j cells)))) in
      record { straight = s; sound = λ σ a t. (t, e σ); full = λ σ a t l. t }

  -- the first terms, and the others
  module _ (i j u v n : ℕ) (pos : 0 < n) (eu : drop u cells ≡ after sig 1 (drop i cells)) (ev : drop v cells ≡ after sig 1 (drop j cells)) where
    split_left : (σ : Subst) → apply σ (part sig cells i n) ≡ apply σ (part sig cells i 1) ++ apply σ (part sig cells u (n - 1))
    split_left σ = ap (apply σ) (part_split sig cells i u n pos eu) ∙ apply-++ σ (part sig cells i 1) (part sig cells u (n - 1))

    split_right : (σ : Subst) → apply σ (part sig cells j n) ≡ apply σ (part sig cells j 1) ++ apply σ (part sig cells v (n - 1))
    split_right σ = ap (apply σ) (part_split sig cells j v n pos ev) ∙ apply-++ σ (part sig cells j 1) (part sig cells v (n - 1))

    pub joined : (σ : Subst) → Level sig cells i j 1 σ → Level sig cells u v (n - 1) σ → Level sig cells i j n σ
    joined σ a b = split_left σ ∙ ap (λ xs. xs ++ apply σ (part sig cells u (n - 1))) a ∙ ap (λ xs. apply σ (part sig cells j 1) ++ xs) b ∙ sym (split_right σ)

    pub parted : (σ : Subst) → Assign sig σ → Begins sig n (drop i cells) → Begins sig n (drop j cells) → Level sig cells i j n σ
        → Level sig cells i j 1 σ × Level sig cells u v (n - 1) σ
    parted σ a b d l =
        unique sig 1 (apply σ (part sig cells i 1)) (apply σ (part sig cells j 1)) (apply σ (part sig cells u (n - 1))) (apply σ (part sig cells v (n - 1)))
        (are_apply sig σ a 1 (part sig cells i 1) (terms_are sig 1 (drop i cells) (begins_first sig cells i n pos b)))
        (are_apply sig σ a 1 (part sig cells j 1) (terms_are sig 1 (drop j cells) (begins_first sig cells j n pos d)))
        (sym (split_left σ) ∙ l ∙ split_right σ)

    inside_rest : (seen : List Bool) (σ : Subst) → Inside sig cells i n seen σ → Inside sig cells u (n - 1) seen σ
    inside_rest seen σ h x e =
        let w : length (apply σ (part sig cells i n)) < length (σ x) = h x e in
        omega (arith, ap length (split_left σ), length-append (apply σ (part sig cells i 1)) (apply σ (part sig cells u (n - 1))))

    inside_first : (seen : List Bool) (σ : Subst) → Inside sig cells i n seen σ → Inside sig cells i 1 seen σ
    inside_first seen σ h x e =
        let w : length (apply σ (part sig cells i n)) < length (σ x) = h x e in
        omega (arith, ap length (split_left σ), length-append (apply σ (part sig cells i 1)) (apply σ (part sig cells u (n - 1))))

    -- the first terms are level, and the rest is compared
    pub then : (before between behind : List Cell) (seen : List Bool) (r : Bool) → Begins sig n (drop i cells) → Begins sig n (drop j cells)
        → Merged sig cells before between i j 1 → Stepped sig cells between behind u v (n - 1) seen r → Stepped sig cells before behind i j n seen r
    then before between behind seen true b d m s = record {
      straight = s.straight;
      sound = λ σ a t.
          let k = s.sound σ a t in
          let f = m.sound σ a k.0 in
          (f.0, joined σ f.1 k.1);
      full = λ σ a t l.
          let k = parted σ a b d l in
          s.full σ a (m.full σ a t k.0) k.1;
    }
    then before between behind seen false b d m s = λ σ a t l h.
        let k = parted σ a b d l in
        s σ a (m.full σ a t k.0) k.1 (inside_rest seen σ h)

    -- the first terms can never be level
    pub never : (sheet : List Cell) (seen : List Bool) → Begins sig n (drop i cells) → Begins sig n (drop j cells) → Clash sig cells sheet i j 1 seen → Clash sig cells sheet i j n seen
    never sheet seen b d c σ a t l h = c σ a t (parted σ a b d l).0 (inside_first seen σ h)

  -- equal heads, where no variable was looked up: one cell on
  pub flat : (before behind : List Cell) (i j n k : ℕ) (seen : List Bool) (r : Bool) → 0 < n → Begins sig n (drop i cells) → Begins sig n (drop j cells)
      → ((at cells i).letter ≡ 86 → ⊥) → at cells i ≡ at cells j → k ≡ arity sig (at cells i)
      → Stepped sig cells before behind (i + 1) (j + 1) (n - 1 + k) seen r → Stepped sig cells before behind i j n seen r
  flat before behind i j n k seen r pos b d v e z =
      let f : (σ : Subst) → apply σ (part sig cells i n) ≡ at cells i ∷ apply σ (part sig cells (i + 1) (n - 1 + k)) =
      λ σ. ap (apply σ) (step sig cells i n b pos).front
      ∙ ap (λ (m : ℕ). image σ (at cells i) ++ apply σ (part sig cells (i + 1) (n - 1 + m))) (sym z)
      ∙ ap (λ xs. xs ++ apply σ (part sig cells (i + 1) (n - 1 + k))) (image_fix σ (at cells i) v) in
      let y : k ≡ arity sig (at cells j) = z ∙ ap (arity sig) e in
      let g : (σ : Subst) → apply σ (part sig cells j n) ≡ at cells i ∷ apply σ (part sig cells (j + 1) (n - 1 + k)) =
      λ σ. ap (apply σ) (step sig cells j n d pos).front
      ∙ ap (λ (m : ℕ). image σ (at cells j) ++ apply σ (part sig cells (j + 1) (n - 1 + m))) (sym y)
      ∙ ap (λ (c : Cell). image σ c ++ apply σ (part sig cells (j + 1) (n - 1 + k))) (sym e)
      ∙ ap (λ xs. xs ++ apply σ (part sig cells (j + 1) (n - 1 + k))) (image_fix σ (at cells i) v) in
      let up : (σ : Subst) → Level sig cells (i + 1) (j + 1) (n - 1 + k) σ → Level sig cells i j n σ =
      λ σ l. f σ ∙ ap (λ xs. at cells i ∷ xs) l ∙ sym (g σ) in
      let down : (σ : Subst) → Level sig cells i j n σ → Level sig cells (i + 1) (j + 1) (n - 1 + k) σ =
      λ σ l. (let w : at cells i ∷ apply σ (part sig cells (i + 1) (n - 1 + k)) ≡ at cells i ∷ apply σ (part sig cells (j + 1) (n - 1 + k)) = sym (f σ) ∙ l ∙ g σ in cc) in
      elim r as (λ r. Stepped sig cells before behind (i + 1) (j + 1) (n - 1 + k) seen r → Stepped sig cells before behind i j n seen r) [
        | true ↦ λ s. record {
          straight = s.straight;
          sound = λ σ a t. ((s.sound σ a t).0, up σ (s.sound σ a t).1);
          full = λ σ a t l. s.full σ a t (down σ l);
        }
        | false ↦ λ s σ a t l h. s σ a t (down σ l) (λ x q. let w : length (apply σ (part sig cells i n)) < length (σ x) = h x q in omega (arith, ap length (f σ)))
      ]

  -- the cells of a variable at one of two level places
  named : (i j x : ℕ) (σ : Subst) → Good sig cells → i < length cells → j < length cells → Names cells i j x → Level sig cells i j 1 σ
      → length (apply σ (part sig cells i 1)) ≡ length (σ x)
  named i j x σ g li lj h l = elim h [
    | inl p ↦ ap length (part_var sig cells i σ (g.whole i li) p.0 ∙ ap σ p.1)
    | inr p ↦ ap length (l ∙ part_var sig cells j σ (g.whole j lj) p.0 ∙ ap σ p.1)
  ]

  -- a variable within itself
  pub circle : (sheet : List Cell) (i j x : ℕ) (seen : List Bool) → Good sig cells → i < length cells → j < length cells → Names cells i j x → get_or seen x false ≡ true
      → Clash sig cells sheet i j 1 seen
  circle sheet i j x seen g li lj h s σ a t l k = omega (arith, named i j x σ g li lj h l, k x s)

  -- the arguments can never be level
  pub deep : (sheet : List Cell) (i j p q k x : ℕ) (seen : List Bool) → Good sig cells → i < length cells → j < length cells → Derefs sig cells sheet i p → Derefs sig cells sheet j q
      → ((at cells p).letter ≡ 86 → ⊥) → at cells p ≡ at cells q → k ≡ arity sig (at cells p) → Names cells i j x
      → Clash sig cells sheet (p + 1) (q + 1) k (set seen x true) → Clash sig cells sheet i j 1 seen
  deep sheet i j p q k x seen g li lj dp dq v e z h c σ a t l s =
      let f : apply σ (part sig cells p 1) ≡ at cells p ∷ apply σ (part sig cells (p + 1) k) =
      part_fix sig cells p σ (g.whole p dp.rooted.0) v ∙ ap (λ (m : ℕ). at cells p ∷ apply σ (part sig cells (p + 1) m)) (sym z) in
      let y : apply σ (part sig cells q 1) ≡ at cells p ∷ apply σ (part sig cells (q + 1) k) =
      part_fix sig cells q σ (g.whole q dq.rooted.0) (λ w. v (ap (λ (c : Cell). c.letter) e ∙ w))
      ∙ ap (λ (c : Cell). c ∷ apply σ (part sig cells (q + 1) (arity sig c))) (sym e)
      ∙ ap (λ (m : ℕ). at cells p ∷ apply σ (part sig cells (q + 1) m)) (sym z) in
      let w : at cells p ∷ apply σ (part sig cells (p + 1) k) ≡ at cells p ∷ apply σ (part sig cells (q + 1) k) =
      sym f ∙ sym (dp.means σ t) ∙ l ∙ dq.means σ t ∙ y in
      let lv : Level sig cells (p + 1) (q + 1) k σ = cc in
      let m : suc (length (apply σ (part sig cells (p + 1) k))) ≡ length (apply σ (part sig cells i 1)) = sym (ap length (dp.means σ t ∙ f)) in
      c σ a t lv (λ o r. elim (eqb_tells o x) [
        | inl b ↦ omega (arith, m, named i j x σ g li lj h l, ap (λ (o : ℕ). length (σ o)) b.1)
        | inr b ↦ omega (arith, m, s o (sym (get_or-set_other seen x o true false b.1) ∙ r))
      ])

  -- a clash of the first terms, with no places behind them named
  pub never_here : (i j n : ℕ) → 0 < n → (sheet : List Cell) (seen : List Bool) → Begins sig n (drop i cells) → Begins sig n (drop j cells)
      → Clash sig cells sheet i j 1 seen → Clash sig cells sheet i j n seen
  never_here i j n pos sheet seen b d c =
      let u = behind sig cells i n pos b in
      let v = behind sig cells j n pos d in
      never i j u.0 v.0 n pos u.1 v.1 sheet seen b d c

  pub small : (i j x : ℕ) → Good sig cells → i < length cells → j < length cells → Names cells i j x → x < 16
  small i j x g li lj h = elim h [
    | inl p ↦ subst (λ (y : ℕ). y < 16) p.1 (g.vars i li p.0)
    | inr p ↦ subst (λ (y : ℕ). y < 16) p.1 (g.vars j lj p.0)
  ]
