-- Fields, and the bytes up to a field.
use Rattle.std.proofs.Common.{◌≡◌, ℕ, zero, suc, ◌+◌, ◌*◌, ◌≤◌, List, [], ◌∷◌, ◌++◌, length, take, drop, replicate, sym, refl, ap, ◌∙◌, arith, take-add}
use lib.Seq.{take-nil}
use Rattle.std.proofs.lemmas.List.{take-take, drop-take}
use Rattle.terms.specs.declared.cell.Cell.{Cell}
use Rattle.image.specs.Texts.{widths, cut, fields, BadField}

-- how many bytes the first f parts have
abbrev upto : List ℕ → ℕ → ℕ
upto [] f = 0
upto (w ∷ ws) zero = 0
upto (w ∷ ws) (suc f) = w + upto ws f

unfoldable pub reach : ℕ → ℕ
reach f = upto widths f

tens : (n f : ℕ) (ws : List ℕ) → f ≤ n → upto (replicate n 10 ++ ws) f ≡ f * 10
tens zero zero [] h = refl
tens zero zero (w ∷ ws) h = refl
tens zero (suc f) ws h = absurd (omega arith)
tens (suc n) zero ws h = refl
tens (suc n) (suc f) ws h = let e = tens n f ws (omega arith) in omega arith

pub reach_cell : (f : ℕ) → f ≤ 12 → reach f ≡ f * 10
unfolding reach
reach_cell f h = tens 12 f (7 ∷ 1 ∷ []) h

cut_length : (ws s : List ℕ) → length (cut ws s) ≡ length ws
cut_length [] s = refl
cut_length (w ∷ ws) s = ap suc (cut_length ws (drop w s))

pub fields_length : (s : List ℕ) → length (fields s) ≡ 14
unfolding fields
fields_length s = cut_length widths s

-- the first parts are the parts of the first bytes
take_cut : (ws s : List ℕ) (f : ℕ) → take f (cut ws s) ≡ cut (take f ws) (take (upto ws f) s)
take_cut [] s f = take-nil f ∙ sym (ap (λ (t : List ℕ). cut t (take 0 s)) (take-nil f))
take_cut (w ∷ ws) s zero = refl
take_cut (w ∷ ws) s (suc f) =
    let u : ℕ = upto ws f in
    let a : take w (take (w + u) s) ≡ take w s = take-take w (w + u) s (omega arith) in
    let b : drop w (take (w + u) s) ≡ take u (drop w s) = drop-take w u s in
    ap (λ t. take w s ∷ t) (take_cut ws (drop w s) f) ∙ sym (ap (λ t. t ∷ cut (take f ws) (drop w (take (w + u) s))) a ∙ ap (λ t. take w s ∷ cut (take f ws) t) b)

joined : List (List ℕ) → List ℕ
joined [] = []
joined (x ∷ xs) = x ++ joined xs

join_cut : (ws s : List ℕ) (f : ℕ) → joined (take f (cut ws s)) ≡ take (upto ws f) s
unfolding joined
join_cut [] s f = ap joined (take-nil f)
join_cut (w ∷ ws) s zero = refl
join_cut (w ∷ ws) s (suc f) = ap (λ t. take w s ++ t) (join_cut ws (drop w s) f) ∙ sym (take-add w (upto ws f) s)

-- lines agree in their first fields exactly where they agree in the bytes of these
pub fields_from : (s t : List ℕ) (f : ℕ) → take (reach f) s ≡ take (reach f) t → take f (fields s) ≡ take f (fields t)
unfolding reach fields
fields_from s t f e = take_cut widths s f ∙ ap (cut (take f widths)) e ∙ sym (take_cut widths t f)

pub fields_to : (s t : List ℕ) (f : ℕ) → take f (fields s) ≡ take f (fields t) → take (reach f) s ≡ take (reach f) t
unfolding reach fields
fields_to s t f e = sym (join_cut widths s f) ∙ ap joined e ∙ join_cut widths t f

-- a bad field is one of the fourteen
pub bad_within : (Row : List Cell → Type 0) (s : List ℕ) (f : ℕ) → BadField Row s f → f ≤ 14
bad_within Row s f b = let w = b.within in let l = fields_length s in omega arith
