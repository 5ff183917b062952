-- Writing the first cells of a row.
use Rattle.std.proofs.Common.{◌≡◌, ℕ, suc, ◌+◌, ◌-◌, ◌<◌, ◌≤◌, min, List, [], ◌∷◌, ◌++◌, length, take, drop, set, sym, refl, ap, ◌∙◌, subst, inl, inr, append_assoc, append-nil, arith, length-append, length-set, length-take}
use Rattle.std.proofs.lemmas.List.{take_more_set, take-append-le, take_all, drop-set-lt, drop-drop}
use Rattle.std.proofs.lemmas.Bool.Decides.{eqb_tells}
use Rattle.terms.specs.declared.cell.Cell.{Cell}
use Rattle.terms.specs.Terms.{arity, Are, Subst, image, apply}
use Rattle.unification.specs.Fronts.{Begins, at, part}
use Rattle.unification.specs.Unifiers.{Assign}
use Rattle.unification.specs.Sheets.{Good, Sol, Derefs}
use Rattle.unification.specs.Samples.{Wrote}
use Rattle.unification.proofs.Theory.{arity_var, image_var, image_fix, are_apply, terms_are}
use Rattle.unification.proofs.Places.{step, part_var, part_fix, begins_first}

pub wrote_none : (before : List Cell) (place : ℕ) → length before ≡ 12 → place ≤ 12 → Wrote [] before before place place
wrote_none before place l h =
    let m : min 12 (place + 0) ≡ place = omega arith in
    record {
      long = refl;
      count = omega arith;
      cells = ap (λ (k : ℕ). take k before) m ∙ sym (take_all 12 (take place before ++ []) (omega (arith, length-append (take place before) [], length-take place before)) ∙ append-nil (take place before));
      rest = refl;
    }

pub wrote_full : (xs before : List Cell) (place : ℕ) → length before ≡ 12 → place ≡ 12 → 0 < length xs → Wrote xs before before place 13
wrote_full xs before place l e h =
    let m : min 12 (place + length xs) ≡ 12 = omega arith in
    let k : length (take place before) ≡ 12 = length-take place before ∙ omega arith in
    record {
      long = refl;
      count = omega arith;
      cells = ap (λ (k : ℕ). take k before) m ∙ sym (take-append-le 12 (take place before) xs (omega arith) ∙ ap (λ (k : ℕ). take 12 (take k before)) e ∙ take_all 12 (take 12 before) (omega (arith, length-take 12 before)));
      rest = refl;
    }

pub wrote_cell : (c : Cell) (ys before behind : List Cell) (place r : ℕ) → length before ≡ 12 → place < 12 → Wrote ys (set before place c) behind (place + 1) r → Wrote (c ∷ ys) before behind place r
wrote_cell c ys before behind place r l h w =
    let m : place + suc (length ys) ≡ place + 1 + length ys = omega arith in
    record {
      long = w.long ∙ length-set before place c;
      count = w.count ∙ ap (min 13) (sym m);
      cells = ap (λ (k : ℕ). take (min 12 k) behind) m ∙ w.cells
          ∙ ap (λ zs. take 12 (zs ++ ys)) (take_more_set before place c (omega arith)) ∙ ap (take 12) (append_assoc (take place before) (c ∷ []) ys);
      rest = ap (λ (k : ℕ). drop (min 12 k) behind) m ∙ w.rest ∙ drop-set-lt (min 12 (place + 1 + length ys)) before place c (omega arith) ∙ ap (λ (k : ℕ). drop (min 12 k) before) (sym m);
    }

pub wrote_over : (ys zs before between : List Cell) (place m : ℕ) → Wrote ys before between place m → 12 < m → length before ≡ 12 → place ≤ 12 → Wrote (ys ++ zs) before between place 13
wrote_over ys zs before between place m w h l p =
    let n : length (ys ++ zs) ≡ length ys + length zs = length-append ys zs in
    let b : 12 < place + length ys = omega (arith, w.count) in
    let t : length (take place before) ≡ place = length-take place before ∙ omega arith in
    let k : min 12 (place + length (ys ++ zs)) ≡ min 12 (place + length ys) = omega arith in
    record {
      long = w.long;
      count = omega arith;
      cells = ap (λ (k : ℕ). take k between) k ∙ w.cells
          ∙ sym (ap (take 12) (sym (append_assoc (take place before) ys zs)) ∙ take-append-le 12 (take place before ++ ys) zs (omega (arith, length-append (take place before) ys)));
      rest = ap (λ (k : ℕ). drop k between) k ∙ w.rest ∙ ap (λ (k : ℕ). drop k before) (sym k);
    }

pub wrote_then : (ys zs before between behind : List Cell) (place m r : ℕ) → Wrote ys before between place m → m ≤ 12 → length before ≡ 12 → place ≤ 12 → Wrote zs between behind m r → Wrote (ys ++ zs) before behind place r
wrote_then ys zs before between behind place m r w h l p v =
    let n : length (ys ++ zs) ≡ length ys + length zs = length-append ys zs in
    let b : place + length ys ≡ m = omega (arith, w.count) in
    let t : length (take place before) ≡ place = length-take place before ∙ omega arith in
    let q : m + length zs ≡ place + length (ys ++ zs) = omega arith in
    let j : min 12 (place + length ys) ≡ m = omega arith in
    let s : take m between ≡ take place before ++ ys =
    ap (λ (k : ℕ). take k between) (sym j) ∙ w.cells ∙ take_all 12 (take place before ++ ys) (omega (arith, length-append (take place before) ys)) in
    record {
      long = v.long ∙ w.long;
      count = v.count ∙ ap (min 13) q;
      cells = ap (λ (k : ℕ). take (min 12 k) behind) (sym q) ∙ v.cells ∙ ap (λ cs. take 12 (cs ++ zs)) s ∙ ap (take 12) (append_assoc (take place before) ys zs);
      rest =
          let d : drop m between ≡ drop m before = ap (λ (k : ℕ). drop k between) (sym j) ∙ w.rest ∙ ap (λ (k : ℕ). drop k before) j in
          let x : m + (min 12 (m + length zs) - m) ≡ min 12 (m + length zs) = omega arith in
          ap (λ (k : ℕ). drop (min 12 k) behind) (sym q) ∙ v.rest
          ∙ ap (λ (k : ℕ). drop k between) (sym x) ∙ sym (drop-drop (min 12 (m + length zs) - m) m between)
          ∙ ap (drop (min 12 (m + length zs) - m)) d
          ∙ drop-drop (min 12 (m + length zs) - m) m before ∙ ap (λ (k : ℕ). drop k before) x ∙ ap (λ (k : ℕ). drop (min 12 k) before) q;
    }

-- n terms at a place, by the first cell
pub at_fix : (sig : List ℕ) (cells : List Cell) (i n k : ℕ) (σ : Subst) → 0 < n → Begins sig n (drop i cells) → ((at cells i).letter ≡ 86 → ⊥) → k ≡ arity sig (at cells i)
    → apply σ (part sig cells i n) ≡ at cells i ∷ apply σ (part sig cells (i + 1) (n - 1 + k))
at_fix sig cells i n k σ pos b v z =
    ap (apply σ) (step sig cells i n b pos).front
    ∙ ap (λ (m : ℕ). image σ (at cells i) ++ apply σ (part sig cells (i + 1) (n - 1 + m))) (sym z)
    ∙ ap (λ xs. xs ++ apply σ (part sig cells (i + 1) (n - 1 + k))) (image_fix σ (at cells i) v)

pub at_var : (sig : List ℕ) (cells : List Cell) (i n : ℕ) (σ : Subst) → 0 < n → Begins sig n (drop i cells) → (at cells i).letter ≡ 86
    → apply σ (part sig cells i n) ≡ apply σ (part sig cells i 1) ++ apply σ (part sig cells (i + 1) (n - 1))
at_var sig cells i n σ pos b v =
    let z : n - 1 + arity sig (at cells i) ≡ n - 1 = omega (arith, arity_var sig (at cells i) v) in
    ap (apply σ) (step sig cells i n b pos).front
    ∙ ap (λ (m : ℕ). image σ (at cells i) ++ apply σ (part sig cells (i + 1) m)) z
    ∙ ap (λ xs. xs ++ apply σ (part sig cells (i + 1) (n - 1))) (image_var σ (at cells i) v ∙ sym (part_var sig cells i σ (begins_first sig cells i n pos b) v))

pub begins_var : (sig : List ℕ) (cells : List Cell) (i n : ℕ) → 0 < n → Begins sig n (drop i cells) → (at cells i).letter ≡ 86 → Begins sig (n - 1) (drop (i + 1) cells)
begins_var sig cells i n pos b v =
    let z : n - 1 + arity sig (at cells i) ≡ n - 1 = omega (arith, arity_var sig (at cells i) v) in
    subst (λ (m : ℕ). Begins sig m (drop (i + 1) cells)) z (step sig cells i n b pos).begins

pub at_some : (sig : List ℕ) (cells : List Cell) (i n : ℕ) (σ : Subst) → Assign sig σ → 0 < n → Begins sig n (drop i cells) → 0 < length (apply σ (part sig cells i n))
at_some sig cells i n σ a pos b = some (apply σ (part sig cells i n)) (are_apply sig σ a n (part sig cells i n) (terms_are sig n (drop i cells) b))
  where
    some : (cs : List Cell) → Are sig n cs → 0 < length cs
    some [] h = absurd (omega arith)
    some (c ∷ cs) h = omega arith

-- a place that stands for a variable, or for another place, has a variable
pub var_of : (sig : List ℕ) (cells sheet : List Cell) (i p : ℕ) → Derefs sig cells sheet i p → (at cells p).letter ≡ 86 → (at cells i).letter ≡ 86
var_of sig cells sheet i p d v = elim (eqb_tells p i) [
  | inl e ↦ ap (λ (k : ℕ). (at cells k).letter) (sym e.1) ∙ v
  | inr e ↦ d.moved e.1
]

-- the term that a place stands for: its head, and then its arguments
pub wrote_head : (sig : List ℕ) (cells sheet : List Cell) (i p k place r : ℕ) (before behind : List Cell) (σ : Subst) → Good sig cells → Derefs sig cells sheet i p → ((at cells p).letter ≡ 86 → ⊥)
    → k ≡ arity sig (at cells p) → Sol sig cells sheet σ → length before ≡ 12 → place < 12 → Wrote (apply σ (part sig cells (p + 1) k)) (set before place (at cells p)) behind (place + 1) r
    → Wrote (apply σ (part sig cells i 1)) before behind place r
wrote_head sig cells sheet i p k place r before behind σ g d v z s l h w =
    let e : apply σ (part sig cells i 1) ≡ at cells p ∷ apply σ (part sig cells (p + 1) k) =
    d.means σ s ∙ part_fix sig cells p σ (g.whole p d.rooted.0) v ∙ ap (λ (m : ℕ). at cells p ∷ apply σ (part sig cells (p + 1) m)) (sym z) in
    subst (λ xs. Wrote xs before behind place r) (sym e) (wrote_cell (at cells p) (apply σ (part sig cells (p + 1) k)) before behind place r l h w)
