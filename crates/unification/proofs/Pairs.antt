-- Two patterns one behind the other.
use Rattle.std.proofs.Common.{◌≡◌, ℕ, zero, suc, ◌+◌, ◌-◌, ◌<◌, ◌≤◌, Bool, false, cond, ◌⊎◌, List, [], ◌∷◌, map, length, get_or, replicate, sym, refl, ap, ◌∙◌, subst, inl, inr, append-nil, arith, length-append}
use Rattle.std.specs.List.{AllByRecursion}
use Rattle.std.proofs.ByRecursion.{All-append, All-weaker, All-map}
use Rattle.std.proofs.lemmas.List.{get_or-replicate, get_or_append_left, get_or-append_right, get_or-map, length-map, drop_at}
use Rattle.std.proofs.lemmas.Bool.{false≢true, cases_lt, eq-eqb, ne_eqb}
use Rattle.kinds.specs.Meaning.{Meaning}
use Rattle.terms.specs.declared.cell.Cell.{Cell}
use Rattle.terms.specs.declared.constraint.Constraint.{Constraint}
use Rattle.terms.specs.Terms.{arity, Are, Fine, Subst, apply}
use Rattle.terms.specs.Proper.{PatternCells, Constrains}
use Rattle.unification.specs.Fronts.{terms, at, part}
use Rattle.unification.specs.Unifiers.{Unifies, MostGeneral, Replacement, sequence}
use Rattle.unification.specs.Sheets.{Good, place_in, entry, blank, Blank, Sol, Straight, Level, Merged, Clash}
use Rattle.unification.specs.Orders.{Unsolved, Ordered}
use Rattle.unification.specs.Pairs.{shifted, shifted_constraint, pair, both_constraints, Below, NoUnifier}
use Rattle.unification.proofs.Cells.{fine_below, fine_var, fine_other, fine_as_var}
use Rattle.unification.proofs.Theory.{var_or, arity_var, are_more, begins_at, terms_front, most_general}

-- a pattern's cells, as far as unification is concerned
pub record Usable (sig : List ℕ) (p : List Cell) : Type 0 where
  pub few : length p ≤ 24
  pub term : Are sig 1 p
  pub small : Below 8 p

pub usable : (sig : List ℕ) (M : Meaning) (p : List Cell) → PatternCells sig M p → Usable sig p
usable sig M p t = record { few = t.few; term = t.term.whole; small = fine_below M 8 p t.term.fine }

pub shifted_var : (c : Cell) → c.letter ≡ 86 → shifted c ≡ record { letter = c.letter; number = c.number + 8 }
shifted_var c h = ap (λ (b : Bool). cond b (record { letter = c.letter; number = c.number + 8 }) c) (eq-eqb c.letter 86 h)

pub shifted_fix : (c : Cell) → (c.letter ≡ 86 → ⊥) → shifted c ≡ c
shifted_fix c h = ap (λ (b : Bool). cond b (record { letter = c.letter; number = c.number + 8 }) c) (ne_eqb c.letter 86 h)

pub shifted_letter : (c : Cell) → (shifted c).letter ≡ c.letter
shifted_letter c = elim (var_or c) [
  | inl v ↦ ap (λ (d : Cell). d.letter) (shifted_var c v)
  | inr v ↦ ap (λ (d : Cell). d.letter) (shifted_fix c v)
]

pub shifted_arity : (sig : List ℕ) (c : Cell) → arity sig (shifted c) ≡ arity sig c
shifted_arity sig c = elim (var_or c) [
  | inl v ↦ arity_var sig (shifted c) (shifted_letter c ∙ v) ∙ sym (arity_var sig c v)
  | inr v ↦ ap (arity sig) (shifted_fix c v)
]

pub are_shifted : (sig : List ℕ) (n : ℕ) (cs : List Cell) → Are sig n cs → Are sig n (map shifted cs)
are_shifted sig n [] h = h
are_shifted sig zero (c ∷ cs) h = absurd h
are_shifted sig (suc n) (c ∷ cs) h =
    subst (λ (k : ℕ). Are sig (k + n) (map shifted cs)) (sym (shifted_arity sig c)) (are_shifted sig (arity sig c + n) cs h)

-- the cell at a place of the pair
pub pair_at : (left right : List Cell) (k : ℕ) → k < length (pair left right)
    → ((k < length left) × (at (pair left right) k ≡ at left k)) ⊎ ((k - length left < length right) × (at (pair left right) k ≡ shifted (at right (k - length left))))
pair_at left right k l = elim (cases_lt k (length left)) [
  | inl h ↦ inl (h, get_or_append_left left (map shifted right) (record { letter = 0; number = 0 }) k h)
  | inr h ↦
      let m : k - length left < length right = omega (arith, length-append left (map shifted right), length-map right shifted) in
      inr (
        m,
        get_or-append_right left (map shifted right) (length left) k (record { letter = 0; number = 0 }) refl h
            ∙ get_or-map shifted right (k - length left) (record { letter = 0; number = 0 }) (record { letter = 0; number = 0 }) m,
      )
]

pub pair_are : (sig : List ℕ) (left right : List Cell) → Are sig 1 left → Are sig 1 right → Are sig 2 (pair left right)
pair_are sig left right a b = are_more sig 1 1 left (map shifted right) a (are_shifted sig 1 right b)

pub pair_good : (sig : List ℕ) (left right : List Cell) → Usable sig left → Usable sig right → Good sig (pair left right)
pair_good sig left right a b = record {
  few = omega (arith, length-append left (map shifted right), length-map right shifted, a.few, b.few);
  vars = λ k l s. elim (pair_at left right k l) [
    | inl p ↦
        let w : (at left k).number < 8 = a.small k p.0 (ap (λ (c : Cell). c.letter) (sym p.1) ∙ s) in
        omega (arith, ap (λ (c : Cell). c.number) p.1)
    | inr p ↦
        let e : (at right (k - length left)).letter ≡ 86 = sym (shifted_letter (at right (k - length left))) ∙ ap (λ (c : Cell). c.letter) (sym p.1) ∙ s in
        let w : (at right (k - length left)).number < 8 = b.small (k - length left) p.0 e in
        omega (arith, ap (λ (c : Cell). c.number) (p.1 ∙ shifted_var (at right (k - length left)) e))
  ];
  whole = λ k l. begins_at sig 2 k (pair left right) (pair_are sig left right a.term b.term) l;
}

-- the cells of the pair are those of a term with sixteen variables
pub pair_fine : (M : Meaning) (left right : List Cell) → AllByRecursion (Fine M 8) left → AllByRecursion (Fine M 8) right → AllByRecursion (Fine M 16) (pair left right)
pair_fine M left right a b =
    All-append (Fine M 16) left (map shifted right)
    (All-weaker (Fine M 8) (Fine M 16) (λ c f. elim (var_or c) [
      | inl v ↦ fine_as_var M 16 c v (let l = fine_var M 8 c f v in omega arith)
      | inr v ↦ fine_other M 8 16 c f v
    ]) left a)
    (All-map (Fine M 16) shifted right (All-weaker (Fine M 8) (λ c. Fine M 16 (shifted c)) (λ c f. elim (var_or c) [
      | inl v ↦ subst (Fine M 16) (sym (shifted_var c v)) (fine_as_var M 16 (record { letter = c.letter; number = c.number + 8 }) v (let l = fine_var M 8 c f v in omega arith))
      | inr v ↦ subst (Fine M 16) (sym (shifted_fix c v)) (fine_other M 8 16 c f v)
    ]) right b))

-- and the constraints are on sixteen variables
pub pair_named : (M : Meaning) (left right : List Constraint) → AllByRecursion (Constrains M) left → AllByRecursion (Constrains M) right → AllByRecursion (λ k. k.variable < 16) (both_constraints left right)
pair_named M left right a b =
    All-append (λ k. k.variable < 16) left (map shifted_constraint right)
    (All-weaker (Constrains M) (λ k. k.variable < 16) (λ k h. (let l = h.0 in omega arith)) left a)
    (All-map (λ k. k.variable < 16) shifted_constraint right (All-weaker (Constrains M) (λ k. k.variable + 8 < 16) (λ k h. (let l = h.0 in omega arith)) right b))

pub part_left : (sig : List ℕ) (left right : List Cell) → Are sig 1 left → part sig (pair left right) 0 1 ≡ left
part_left sig left right h = terms_front sig 1 left (map shifted right) h

pub part_right : (sig : List ℕ) (left right : List Cell) → Are sig 1 right → part sig (pair left right) (length left) 1 ≡ map shifted right
part_right sig left right h =
    ap (terms sig 1) (drop_at left (map shifted right) (length left) refl ∙ sym (append-nil (map shifted right)))
    ∙ terms_front sig 1 (map shifted right) [] (are_shifted sig 1 right h)

some : (sig : List ℕ) (n : ℕ) (cs : List Cell) → Are sig n cs → 0 < n → 0 < length cs
some sig n [] h k = omega arith
some sig n (c ∷ cs) h k = omega arith

-- to be level at the two places is to be unified
module _ (sig : List ℕ) (left right cells : List Cell) (a : Usable sig left) (b : Usable sig right) (is : cells ≡ pair left right) where
  pub good : Good sig cells
  good = subst (Good sig) (sym is) (pair_good sig left right a b)

  pub inside_left : 0 < length cells
  inside_left = omega (arith, ap length is, length-append left (map shifted right), some sig 1 left a.term (omega arith))

  pub inside_right : length left < length cells
  inside_right = omega (arith, ap length is, length-append left (map shifted right), length-map right shifted, some sig 1 right b.term (omega arith))

  pub levels : (σ : Subst) → Level sig cells 0 (length left) 1 σ → Unifies σ left (map shifted right)
  levels σ l =
      sym (ap (apply σ) (part_left sig left right a.term))
      ∙ ap (λ (cs : List Cell). apply σ (part sig cs 0 1)) (sym is) ∙ l ∙ ap (λ (cs : List Cell). apply σ (part sig cs (length left) 1)) is
      ∙ ap (apply σ) (part_right sig left right b.term)

  pub unlevels : (σ : Subst) → Unifies σ left (map shifted right) → Level sig cells 0 (length left) 1 σ
  unlevels σ u =
      ap (λ (cs : List Cell). apply σ (part sig cs 0 1)) is ∙ ap (apply σ) (part_left sig left right a.term)
      ∙ u
      ∙ sym (ap (apply σ) (part_right sig left right b.term)) ∙ ap (λ (cs : List Cell). apply σ (part sig cs (length left) 1)) (sym is)

  blank_free : (sheet : List Cell) → Blank sheet → (x : ℕ) → x < 16 → entry sheet x < length cells → ⊥
  blank_free sheet k x l h =
      let e : entry sheet x ≡ 48 = ap place_in (ap (λ (s : List Cell). at s x) k ∙ get_or-replicate 16 x blank (record { letter = 0; number = 0 }) l) in
      omega (arith, good.few)

  pub blank_sol : (sheet : List Cell) → Blank sheet → (σ : Subst) → Sol sig cells sheet σ
  blank_sol sheet k σ x l h = absurd (blank_free sheet k x l h)

  pub blank_straight : (sheet : List Cell) → Blank sheet → Straight cells sheet
  blank_straight sheet k x l h = absurd (blank_free sheet k x l h)

  pub clashed : (sheet : List Cell) → Blank sheet → Clash sig cells sheet 0 (length left) 1 (replicate 16 false) → NoUnifier sig left right
  clashed sheet k c σ s u = c σ s (blank_sol sheet k σ) (unlevels σ u) (λ x h. absurd (false≢true (sym (none 16 x) ∙ h)))
    where
      none : (n x : ℕ) → get_or (replicate n false) x false ≡ false
      none zero x = refl
      none (suc n) zero = refl
      none (suc n) (suc x) = none n x

  pub circled : (before behind : List Cell) → Blank before → Merged sig cells before behind 0 (length left) 1 → Unsolved sig cells behind → NoUnifier sig left right
  circled before behind k m n σ s u = n σ s (m.full σ s (blank_sol before k σ) (unlevels σ u))

  pub found : (before behind : List Cell) (bs : List Replacement) → Blank before → Merged sig cells before behind 0 (length left) 1 → Ordered sig cells behind bs
      → MostGeneral sig (sequence bs) left (map shifted right)
  found before behind bs k m o = most_general sig bs left (map shifted right) o.proper
      (λ σ s h. levels σ (m.sound σ s (o.solved σ h)).1)
      (λ σ s u. o.solves σ (m.full σ s (blank_sol before k σ) (unlevels σ u)))
