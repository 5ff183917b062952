use Rattle.std.proofs.Common.{ℕ, eqb, List, [], ◌∷◌, Decides, sym, refl, ap, ◌∙◌, inl, inr, ⊎_elim, subst, rules, tests}
use Rattle.std.specs.List.{list_any}
use Rattle.std.proofs.lemmas.Bool.{false≢true}
use Rattle.std.proofs.lemmas.Bool.Decides.{Decides-eqb, Decides-or, Decides-like, Decides-at}
use Rattle.std.proofs.lemmas.Iterator.{YieldsList-from_slice}
use Rattle.std.proofs.lemmas.Iterator.Search.{any_from_yields_List}
use Rattle.rolls.specs.Rolls.{Has}
use Rattle.rolls.proofs.roll.Roll.has.Goals as goal

-- a test of each entry finds the owner where an entry has it
found : {E : Type 0} (owned : E → ℕ) (owner : ℕ) (xs : List E) → Decides (list_any (λ e. eqb (owned e) owner) xs) (Has owned owner xs)
found owned owner [] = (λ e. absurd (false≢true e), λ h. absurd h.1)
found owned owner (x ∷ xs) =
    Decides-like _
    (⊎_elim (λ p. (x, inl refl, p)) (λ h. (h.0, inr h.1, h.2)))
    (λ h. ⊎_elim (λ e. inl (ap owned (sym e) ∙ h.2)) (λ n. inr (h.0, n, h.2)) h.1)
    (Decides-or _ _ (Decides-eqb (owned x) owner) (found owned owner xs))

pub returns : goal.returns
returns g c =
    let owned = g.E.Owned.owned in
    let e = any_from_yields_List (λ e. eqb (owned e) c.args.owner) _ _ c.any.result c.any.ensures.ran (YieldsList-from_slice c.entries.result.now c.iter.ensures.rest) (λ x b q k. search (rules, tests)) in
    subst (λ l. Decides c.any.result (Has owned c.args.owner l)) c.entries.ensures (Decides-at _ _ e (found owned c.args.owner c.entries.result.now))
