-- A survey in two passes, one entry after another: over the store's rows, and over the changes.
use Rattle.std.proofs.Common.{◌≡◌, ℕ, ◌+◌, ◌⊎◌, List, [], ◌∷◌, ◌++◌, Some, None, Option, sym, refl, ap, ◌∙◌, subst, inl, inr, ⊎_elim}
use Rattle.maps.specs.Maps.{In, Map, Has, Listed, Figures}
use Rattle.maps.proofs.Lists.{in_push, push_old, push_new, append_right}
use Rattle.maps.proofs.Figures.{figures_by, figures_none, figures_row, figures_join}
use Rattle.maps.proofs.Sizes.{none_some}
use Rattle.serial.specs.Rights.{Change, Change.written, Change.struck}
use Rattle.serial.specs.Machine.{Pending, KeysOnce, effect, pending_for, with_own}
use Rattle.serial.specs.Surveys.{Unchanged, Changed}
use Rattle.serial.proofs.Rolls.{found_in, in_found, none_found}

-- no earlier change is for the same transaction and row
keys_before : {Row : Type 0} (xs ys : List (Pending Row)) (c : Pending Row) → KeysOnce (xs ++ (c ∷ ys)) → (b : Pending Row) → In b xs
    → ¬ ((b.owner ≡ c.owner) × (b.row ≡ c.row))
keys_before [] ys c k b i e = i
keys_before (x ∷ xs) ys c k b (inl q) e =
    k.0 c (append_right xs (c ∷ ys) c (inl refl)) (sym (sym (ap (λ z. z.owner) q) ∙ e.0), sym (sym (ap (λ z. z.row) q) ∙ e.1))
keys_before (x ∷ xs) ys c k b (inr i) e = keys_before xs ys c k.1 b i e

module _ {Row : Type 0} (same : (r s : Row) → Dec (r ≡ s)) (t : ℕ) (cs : List (Pending Row)) (m : Map Row) (fits : Row → Type 0) (number total : ℕ) where
  -- the first pass, at its start and over one more row of the store
  module _ (rows : List Row) (r : Row) where
    pub row_taken : (k : ℕ) → m r ≡ Some k → ¬ In r rows → fits r → pending_for same t r cs ≡ None
        → Figures (Unchanged same t cs fits rows) (with_own same t cs m) number total
        → Figures (Unchanged same t cs fits (rows ++ (r ∷ []))) (with_own same t cs m) (number + 1) (total + k)
    row_taken k e new f q x =
        figures_by (λ s. Unchanged same t cs fits rows s ⊎ (s ≡ r)) (Unchanged same t cs fits (rows ++ (r ∷ []))) (with_own same t cs m) (number + 1) (total + k)
        (λ s _. (
          ⊎_elim (λ y. (push_old rows r s y.0, y.1, y.2))
              (λ z. (push_new rows r s z, subst fits (sym z) f, ap (λ z. pending_for same t z cs) z ∙ q)),
          (λ y. ⊎_elim (λ i. inl (i, y.1, y.2)) inr (in_push rows r s y.0)),
        ))
        (figures_row (Unchanged same t cs fits rows) (with_own same t cs m) r k (ap (λ o. effect o (m r)) q ∙ e) number total (λ y. new y.0) x)

    pub row_passed : (fits r → pending_for same t r cs ≡ None → ⊥)
        → Figures (Unchanged same t cs fits rows) (with_own same t cs m) number total
        → Figures (Unchanged same t cs fits (rows ++ (r ∷ []))) (with_own same t cs m) number total
    row_passed out x =
        figures_by (Unchanged same t cs fits rows) (Unchanged same t cs fits (rows ++ (r ∷ []))) (with_own same t cs m) number total
        (λ s _. (
          (λ y. (push_old rows r s y.0, y.1, y.2)),
          (λ y. ⊎_elim (λ i. (i, y.1, y.2)) (λ z. absurd (out (subst fits z y.1) (ap (λ z. pending_for same t z cs) (sym z) ∙ y.2))) (in_push rows r s y.0)),
        ))
        x

  -- the second pass, over one more change
  module _ (before rest : List (Pending Row)) (c : Pending Row) (at : cs ≡ before ++ (c ∷ rest)) (keys : KeysOnce cs) where
    here : In c cs
    here = subst (λ l. In c l) (sym at) (append_right before (c ∷ rest) c (inl refl))

    found : c.owner ≡ t → pending_for same t c.row cs ≡ Some c.change
    found e = subst (λ u. pending_for same u c.row cs ≡ Some c.change) e (found_in same cs keys c here)

    pub change_taken : (k : ℕ) → c.owner ≡ t → c.change ≡ written k → fits c.row
        → Figures (Changed t fits before) (with_own same t cs m) number total
        → Figures (Changed t fits (before ++ (c ∷ []))) (with_own same t cs m) (number + 1) (total + k)
    change_taken k e w f x =
        figures_by (λ s. Changed t fits before s ⊎ (s ≡ c.row)) (Changed t fits (before ++ (c ∷ []))) (with_own same t cs m) (number + 1) (total + k)
        (λ s _. (
          ⊎_elim (λ y. ((y.0.0, push_old before c y.0.0 y.0.1, y.0.2, y.0.3), y.1))
              (λ z. ((c, push_new before c c refl, e, sym z), subst fits (sym z) f)),
          (λ y. ⊎_elim (λ i. inl ((y.0.0, i, y.0.2, y.0.3), y.1)) (λ q. inr (sym y.0.3 ∙ ap (λ z. z.row) q)) (in_push before c y.0.0 y.0.1)),
        ))
        (figures_row (Changed t fits before) (with_own same t cs m) c.row k (ap (λ o. effect o (m c.row)) (found e ∙ ap Some w)) number total
        (λ y. keys_before before rest c (subst (λ l. KeysOnce l) at keys) y.0.0 y.0.1 (y.0.2 ∙ sym e, y.0.3)) x)

    pub change_passed : (c.owner ≡ t → fits c.row → c.change ≡ struck)
        → Figures (Changed t fits before) (with_own same t cs m) number total
        → Figures (Changed t fits (before ++ (c ∷ []))) (with_own same t cs m) number total
    change_passed out x =
        figures_by (Changed t fits before) (Changed t fits (before ++ (c ∷ []))) (with_own same t cs m) number total
        (λ s has. (
          (λ y. ((y.0.0, push_old before c y.0.0 y.0.1, y.0.2, y.0.3), y.1)),
          (λ y. ⊎_elim (λ i. ((y.0.0, i, y.0.2, y.0.3), y.1)) (λ q. absurd (gone s has y q)) (in_push before c y.0.0 y.0.1)),
        ))
        x
      where
        -- an absence leaves no count
        gone : (s : Row) → Has (with_own same t cs m) s → (y : Changed t fits (before ++ (c ∷ [])) s) → y.0.0 ≡ c → ⊥
        gone s has y q =
            let e : c.owner ≡ t = ap (λ z. z.owner) (sym q) ∙ y.0.2 in
            let r : c.row ≡ s = ap (λ z. z.row) (sym q) ∙ y.0.3 in
            let w : c.change ≡ struck = out e (subst fits (sym r) y.1) in
            none_some has.0 (sym (ap (λ o. effect o (m s)) (subst (λ x. pending_for same t x cs ≡ Some struck) r (found e ∙ ap Some w))) ∙ has.1)

module _ {Row : Type 0} (same : (r s : Row) → Dec (r ≡ s)) (t : ℕ) (cs : List (Pending Row)) (m : Map Row) (fits : Row → Type 0) where
  pub rows_start : Figures (Unchanged same t cs fits []) (with_own same t cs m) 0 0
  rows_start = figures_none (Unchanged same t cs fits []) (with_own same t cs m) (λ r y has. y.0)

  pub changes_start : Figures (Changed t fits []) (with_own same t cs m) 0 0
  changes_start = figures_none (Changed t fits []) (with_own same t cs m) (λ r y has. y.0.1)

  -- both passes together
  pub survey_both : KeysOnce cs → (rows : List Row) → Listed rows m → (a x b y : ℕ) → Figures (Unchanged same t cs fits rows) (with_own same t cs m) a x
      → Figures (Changed t fits cs) (with_own same t cs m) b y → Figures fits (with_own same t cs m) (a + b) (x + y)
  survey_both keys rows listed a x b y f g =
      figures_by (λ r. Unchanged same t cs fits rows r ⊎ Changed t fits cs r) fits (with_own same t cs m) (a + b) (x + y)
      (λ r has. ((λ z. ⊎_elim (λ u. u.1) (λ u. u.1) z), (λ z. side r z has.0 (pending_for same t r cs) refl has.1)))
      (figures_join (Unchanged same t cs fits rows) (Changed t fits cs) (with_own same t cs m) a x b y
      (λ r u v. none_found v.0.0.change (sym u.2 ∙ found r v.0)) f g)
    where
      found : (r : Row) (v : (c : Pending Row) × In c cs × (c.owner ≡ t) × (c.row ≡ r)) → pending_for same t r cs ≡ Some v.0.change
      found r v =
          subst (λ q. pending_for same t q cs ≡ Some v.0.change) v.3
          (subst (λ u. pending_for same u v.0.row cs ≡ Some v.0.change) v.2 (found_in same cs keys v.0 v.1))

      side : (r : Row) → fits r → (k : ℕ) (o : Option Change) → pending_for same t r cs ≡ o → effect o (m r) ≡ Some k → Unchanged same t cs fits rows r ⊎ Changed t fits cs r
      side r z k (Some c) q e = inr ((record { owner = t; row = r; change = c }, in_found same cs t r c q, refl, refl), z)
      side r z k None q e = inl ((listed.those r).1 (k, e), z, q)
