-- Answer lines that are written one after another: what is written, and what is left gives the whole.
use Rattle.std.proofs.Common.{◌≡◌, ℕ, ◌+◌, ◌<◌, ◌≤◌, ◌⊎◌, List, [], ◌∷◌, ◌++◌, map, length, get_or, drop, Some, None, Option, Iter, unwrap_or, sym, refl, ap, ◌∙◌, ap₂, inl, inr, ⊎_elim, append_assoc, append-nil}
use denote.Ref.{Bor}
use mathlib.Core.List.{cons≢nil}
use Rattle.std.specs.Option.{option_zip}
use Rattle.std.specs.Slice.Iter.{iter_rest, iter_steps}
use Rattle.std.proofs.lemmas.List.{drop_more, drop_all, nil_from_length}
use Rattle.compare.specs.declared.sample.Sample.{Sample}
use Rattle.runs.specs.declared.call.Answer.{Answer}
use Rattle.requests.specs.Layout.{Ask, fields}
use Rattle.sheets.specs.Answers.{answer_lines, written, not_laid, line_of}

-- where no answer or no row buffer is left, only the lines that are not laid out get one
unanswered : (ks : List (Option Ask)) (rs : List Answer) (ss : List Sample) → (rs ≡ []) ⊎ (ss ≡ []) → answer_lines ks rs ss ≡ answer_lines ks [] []
unanswered [] rs ss e = refl
unanswered (None ∷ ks) rs ss e = ap (λ t. written not_laid ++ t) (unanswered ks rs ss e)
unanswered (Some k ∷ ks) [] ss e = unanswered ks [] ss (inl refl)
unanswered (Some k ∷ ks) (r ∷ rs) [] e = unanswered ks (r ∷ rs) [] (inr refl)
unanswered (Some k ∷ ks) (r ∷ rs) (s ∷ ss) e = ⊎_elim (λ q. absurd (cons≢nil q)) (λ q. absurd (cons≢nil q)) e

module _ {X : Type 0} (ask : X → Option Ask) (xs : List X) (whole : List ℕ) where
  abbrev pub Left : List ℕ → ℕ → List Answer → List Sample → Type 0
  Left out i rs ss = out ++ answer_lines (map ask (drop i xs)) rs ss ≡ whole

  module _ (out : List ℕ) (i : ℕ) (d : X) (rs : List Answer) (ss : List Sample) (l : i < length xs) (h : Left out i rs ss) where
    next : (o : Option Ask) → ask (get_or xs i d) ≡ o → answer_lines (map ask (drop i xs)) rs ss ≡ answer_lines (o ∷ map ask (drop (i + 1) xs)) rs ss
    next o e = ap (λ z. answer_lines (map ask z) rs ss) (drop_more xs i d l) ∙ ap (λ z. answer_lines (z ∷ map ask (drop (i + 1) xs)) rs ss) e

    pub left_none : (out' : List ℕ) → ask (get_or xs i d) ≡ None → out' ≡ out ++ written not_laid → Left out' (i + 1) rs ss
    left_none out' e w =
        ap (λ z. z ++ answer_lines (map ask (drop (i + 1) xs)) rs ss) w
        ∙ append_assoc out (written not_laid) (answer_lines (map ask (drop (i + 1) xs)) rs ss)
        ∙ ap (λ z. out ++ z) (sym (next None e))
        ∙ h

    pub left_some : (out' : List ℕ) (a : Ask) (r : Answer) (s : Sample) (rs' : List Answer) (ss' : List Sample) → ask (get_or xs i d) ≡ Some a → rs ≡ r ∷ rs' → ss ≡ s ∷ ss'
        → out' ≡ out ++ written (line_of (fields a).word r s) → Left out' (i + 1) rs' ss'
    left_some out' a r s rs' ss' e er es w =
        ap (λ z. z ++ answer_lines (map ask (drop (i + 1) xs)) rs' ss') w
        ∙ append_assoc out (written (line_of (fields a).word r s)) (answer_lines (map ask (drop (i + 1) xs)) rs' ss')
        ∙ ap (λ z. out ++ z) (sym (next (Some a) e ∙ ap₂ (answer_lines (Some a ∷ map ask (drop (i + 1) xs))) er es))
        ∙ h

    pub left_skip : (a : Ask) (rs' : List Answer) (ss' : List Sample) → ask (get_or xs i d) ≡ Some a → (rs ≡ []) ⊎ (ss ≡ []) → (rs' ≡ []) ⊎ (ss' ≡ []) → Left out (i + 1) rs' ss'
    left_skip a rs' ss' e none none' =
        ap (λ z. out ++ z) (unanswered (map ask (drop (i + 1) xs)) rs' ss' none' ∙ sym (next (Some a) e ∙ unanswered (Some a ∷ map ask (drop (i + 1) xs)) rs ss none)) ∙ h

  pub left_end : (out : List ℕ) (i : ℕ) (rs : List Answer) (ss : List Sample) → length xs ≤ i → Left out i rs ss → out ≡ whole
  left_end out i rs ss l h = sym (append-nil out) ∙ sym (ap (λ z. out ++ answer_lines (map ask z) rs ss) (drop_all i xs l)) ∙ h

-- the next of two iterators at once
module _ {A B : Type 0} (s t : Iter A) (u v : Iter B) where
  pub both : (o : Option (Bor A)) (p : Option (Bor B)) (z : Bor A × Bor B) → iter_steps s o t → iter_steps u p v → option_zip o p ≡ Some z → (iter_rest s ≡ z.0.now ∷ iter_rest t) × (iter_rest u ≡ z.1.now ∷ iter_rest v)
  both None p z a b e = absurd (cc)
  both (Some x) None z a b e = absurd (cc)
  both (Some x) (Some y) z a b e =
      let q : (x, y) ≡ z = ap (λ o. unwrap_or o z) e in
      (a ∙ ap (λ k. k.0.now ∷ iter_rest t) q, b ∙ ap (λ k. k.1.now ∷ iter_rest v) q)

  pub spent : (o : Option (Bor A)) (p : Option (Bor B)) → iter_steps s o t → iter_steps u p v → option_zip o p ≡ None → ((iter_rest s ≡ []) ⊎ (iter_rest u ≡ [])) × ((iter_rest t ≡ []) ⊎ (iter_rest v ≡ []))
  spent None p a b e = let n = nil_from_length (iter_rest s) a.0 in (inl n, inl (ap iter_rest a.1 ∙ n))
  spent (Some x) None a b e = let n = nil_from_length (iter_rest u) b.0 in (inr n, inr (ap iter_rest b.1 ∙ n))
  spent (Some x) (Some y) a b e = absurd (cc)
