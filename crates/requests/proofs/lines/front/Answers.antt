use Rattle.std.proofs.Common.{◌≡◌, ℕ, zero, suc, ◌+◌, ◌<◌, ◌≤◌, List, get_or, sym, ap, ◌∙◌, subst, ⊎_elim, arith, rules}
use denote.Param.Members.{Mut, Called}
use Rattle.std.specs.Array.{IsFromFnResultFrom}
use Rattle.std.proofs.lemmas.Bool.{cases_eq}
use Rattle.requests.proofs.Alike.{front_is}
use Rattle.requests.proofs.lines.front.Goals as goal

-- calls that change nothing, at each number in turn
calls_at : {F : Type 0} (g : Mut F (ℕ × Unit {0}) ℕ) (h : ℕ → ℕ) (f : F) (ys : List ℕ) (i n : ℕ) → IsFromFnResultFrom g f ys i n
    → ((k y : ℕ) (q : F) → Called g f (k, tt) y q → (q ≡ f) × (y ≡ h k)) → (k : ℕ) → i ≤ k → k < i + n → get_or ys k 32 ≡ h k
calls_at g h f ys i zero w s k a b = absurd (omega arith)
calls_at g h f ys i (suc n) w s k a b =
    let r = s i w.1 w.0 w.3 in
    ⊎_elim
    (λ e. ap (λ j. get_or ys j 32) e ∙ w.2.1 32 ∙ r.1 ∙ ap h (sym e))
    (λ ne. calls_at g h f ys (i + 1) n (subst (λ p. IsFromFnResultFrom g p ys (i + 1) n) r.0 w.4) s k (omega arith) (omega arith))
    (cases_eq k i)

pub returns : goal.returns
returns g c =
    let line = c.args.line.now in
    front_is _ line c.from_fn.result c.from_fn.ensures.items.long
    (λ i h. calls_at _ (λ k. get_or line k 32) _ c.from_fn.result 0 _ c.from_fn.ensures.items.each (λ k y q e. search rules) i (omega arith) (omega arith))
