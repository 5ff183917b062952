-- A sheet's bindings in line, and circles.
use Rattle.std.proofs.Common.{◌≡◌, ℕ, zero, suc, ◌+◌, ◌-◌, ◌*◌, ◌<◌, ◌≤◌, Bool, true, false, cond, ltb, List, [], ◌∷◌, ◌++◌, length, get_or, drop, set, sym, refl, ap, ◌∙◌, subst, inl, inr, arith, length-append}
use Rattle.std.proofs.lemmas.List.{get_or-set_same, get_or-set_other}
use Rattle.std.specs.List.{count_by, AllByRecursion}
use Rattle.std.proofs.lemmas.List.Recursion.{is_count_by}
use Rattle.std.proofs.lemmas.Bool.Decides.{eqb_tells}
use Rattle.std.proofs.lemmas.Bool.{true≢false, false≢true, ltb-true, lt-ltb}
use Rattle.terms.specs.declared.cell.Cell.{Cell}
use Rattle.terms.specs.Terms.{arity, Subst, image, apply}
use Rattle.unification.specs.Fronts.{Begins, terms, at, part}
use Rattle.unification.specs.Unifiers.{Replacement}
use Rattle.unification.specs.Sequences.{Lacks, Apart, Proper, Solves, Unnamed}
use Rattle.unification.specs.Sheets.{Good, entry, Sol, Straight}
use Rattle.unification.specs.Orders.{Has, IsOpen, opens, Within, Stuck, Chosen, Unsolved, Ordered}
use Rattle.unification.proofs.Theory.{var_or, image_var, image_fix, terms_are, terms_none, arity_var}
use Rattle.unification.proofs.Places.{step}

-- the open ones
pub opens_none : (bs : List Bool) → opens bs ≡ 0 → (x : ℕ) → get_or bs x false ≡ false
opens_none [] h x = refl
opens_none (true ∷ bs) h x = absurd (omega arith)
opens_none (false ∷ bs) h zero = refl
opens_none (false ∷ bs) h (suc x) = opens_none bs h x

pub opens_some : (bs : List Bool) → 0 < opens bs → (x : ℕ) × IsOpen bs x
opens_some [] h = absurd (omega arith)
opens_some (true ∷ bs) h = (0, refl)
opens_some (false ∷ bs) h = let k = opens_some bs h in (suc k.0, k.1)

pub opens_set : (bs : List Bool) (x : ℕ) → IsOpen bs x → suc (opens (set bs x false)) ≡ opens bs
opens_set [] x h = absurd (false≢true h)
opens_set (true ∷ bs) zero h = refl
opens_set (false ∷ bs) zero h = absurd (false≢true h)
opens_set (true ∷ bs) (suc x) h = ap suc (opens_set bs x h)
opens_set (false ∷ bs) (suc x) h = opens_set bs x h

pub opens_length : (bs : List Bool) → opens bs ≤ length bs
opens_length [] = omega arith
opens_length (true ∷ bs) = let k = opens_length bs in omega arith
opens_length (false ∷ bs) = let k = opens_length bs in omega arith

pub open_within : (bs : List Bool) (x : ℕ) → IsOpen bs x → x < length bs
open_within [] x h = absurd (false≢true h)
open_within (b ∷ bs) zero h = omega arith
open_within (b ∷ bs) (suc x) h = let k = open_within bs x h in omega arith

pub closed : (b : Bool) → (b ≡ true → ⊥) → b ≡ false
closed true h = absurd (h refl)
closed false h = refl

-- a variable's cells stand within those of what has it
pub has_length : (σ : Subst) (y : ℕ) (cs : List Cell) → Has y cs → length (σ y) ≤ length (apply σ cs)
has_length σ y [] h = absurd h
has_length σ y (c ∷ cs) h = elim h [
  | inl p ↦
      let e : length (image σ c) ≡ length (σ y) = ap length (image_var σ c p.0 ∙ ap σ p.1) in
      omega (arith, length-append (image σ c) (apply σ cs))
  | inr p ↦ let k : length (σ y) ≤ length (apply σ cs) = has_length σ y cs p in omega (arith, length-append (image σ c) (apply σ cs))
]

-- down from a bound variable to one in its term: fewer cells, or as many and a smaller variable
pub descent : (sig : List ℕ) (cells sheet : List Cell) (σ : Subst) (x y : ℕ) → Good sig cells → Straight cells sheet → Sol sig cells sheet σ
    → x < 16 → entry sheet x < length cells → y < 16 → Has y (part sig cells (entry sheet x) 1)
    → 16 * length (σ y) + y < 16 * length (σ x) + x
descent sig cells sheet σ x y g st s lx b ly h =
    let e : ℕ = entry sheet x in
    let w : Begins sig 1 (drop e cells) = g.whole e b in
    let n : length (σ x) ≡ length (apply σ (part sig cells e 1)) = ap length (s x lx b) in
    let f : part sig cells e 1 ≡ at cells e ∷ terms sig (1 - 1 + arity sig (at cells e)) (drop (e + 1) cells) = (step sig cells e 1 w (omega arith)).front in
    let i : Has y (at cells e ∷ terms sig (1 - 1 + arity sig (at cells e)) (drop (e + 1) cells)) = subst (Has y) f h in
    let k : length (σ y) ≤ length (apply σ (part sig cells e 1)) = has_length σ y (part sig cells e 1) h in
    elim (var_or (at cells e)) [
      | inl v ↦
          let d : (at cells e).number < x = st x lx b v in
          let z : 1 - 1 + arity sig (at cells e) ≡ 0 = omega (arith, arity_var sig (at cells e) v) in
          let r : terms sig (1 - 1 + arity sig (at cells e)) (drop (e + 1) cells) ≡ [] = ap (λ (m : ℕ). terms sig m (drop (e + 1) cells)) z ∙ terms_none sig (drop (e + 1) cells) in
          elim i [
            | inl p ↦ omega (arith, p.1)
            | inr p ↦ absurd (subst (Has y) r p)
          ]
      | inr v ↦
          elim i [
            | inl p ↦ absurd (v p.0)
            | inr p ↦
                let q : length (σ y) ≤ length (apply σ (terms sig (1 - 1 + arity sig (at cells e)) (drop (e + 1) cells))) =
                has_length σ y (terms sig (1 - 1 + arity sig (at cells e)) (drop (e + 1) cells)) p in
                let o : length (apply σ (part sig cells e 1)) ≡ suc (length (apply σ (terms sig (1 - 1 + arity sig (at cells e)) (drop (e + 1) cells)))) =
                ap length (ap (apply σ) f ∙ ap (λ xs. xs ++ apply σ (terms sig (1 - 1 + arity sig (at cells e)) (drop (e + 1) cells))) (image_fix σ (at cells e) v)) in
                omega arith
          ]
    ]

falls : (sig : List ℕ) (cells sheet : List Cell) (wait : List Bool) (σ : Subst) → Good sig cells → Straight cells sheet → Within cells sheet wait → Stuck sig cells sheet wait
    → Sol sig cells sheet σ → (m x : ℕ) → 16 * length (σ x) + x < m → IsOpen wait x → ⊥
falls sig cells sheet wait σ g st w k s zero x l o = omega arith
falls sig cells sheet wait σ g st w k s (suc m) x l o =
    let b = w x o in
    let y = k x b.0 o in
    let d : 16 * length (σ y.0) + y.0 < 16 * length (σ x) + x = descent sig cells sheet σ x y.0 g st s b.0 b.1 y.1 y.3 in
    falls sig cells sheet wait σ g st w k s m y.0 (omega arith) y.2

-- where some are open and each waits for another, nothing solves the sheet
pub unsolved : (sig : List ℕ) (cells sheet : List Cell) (wait : List Bool) → Good sig cells → Straight cells sheet → Within cells sheet wait → Stuck sig cells sheet wait
    → 0 < opens wait → Unsolved sig cells sheet
unsolved sig cells sheet wait g st w k h σ a s =
    let x = opens_some wait h in
    falls sig cells sheet wait σ g st w k s (suc (16 * length (σ x.0) + x.0)) x.0 (omega arith) x.1

-- what is placed so far
pub record Placed (sig : List ℕ) (cells sheet : List Cell) (wait : List Bool) (bs : List Replacement) : Type 0 where
  pub within : Within cells sheet wait
  pub proper : Proper sig bs
  pub apart : (x : ℕ) → IsOpen wait x → Apart x bs
  pub solves : (σ : Subst) → Sol sig cells sheet σ → Solves σ bs
  pub solved : (σ : Subst) → Solves σ bs → (x : ℕ) → x < 16 → entry sheet x < length cells → get_or wait x false ≡ false → σ x ≡ apply σ (part sig cells (entry sheet x) 1)
  pub free : (y : ℕ) → length cells ≤ entry sheet y → Unnamed y bs
  pub drawn : AllByRecursion (λ b. (p : ℕ) × (b.term ≡ part sig cells p 1)) bs

pub placed_none : (sig : List ℕ) (cells sheet : List Cell) (wait : List Bool) → length wait ≡ 16
    → ((x : ℕ) → x < 16 → get_or wait x false ≡ ltb (entry sheet x) (length cells)) → Placed sig cells sheet wait []
placed_none sig cells sheet wait l h = record {
  within = λ x o.
      let k : x < 16 = omega (arith, open_within wait x o) in
      (k, ltb-true (entry sheet x) (length cells) (sym (h x k) ∙ o));
  proper = tt;
  apart = λ x o. tt;
  solves = λ σ s. tt;
  solved = λ σ s x k b o. absurd (true≢false (sym (lt-ltb (entry sheet x) (length cells) b) ∙ sym (h x k) ∙ o));
  free = λ y f. tt;
  drawn = tt;
}

pub placed_more : (sig : List ℕ) (cells sheet : List Cell) (wait : List Bool) (bs : List Replacement) (x : ℕ) → Good sig cells → length wait ≡ 16
    → Placed sig cells sheet wait bs → Chosen sig cells sheet wait x
    → Placed sig cells sheet (set wait x false) (record { name = x; term = part sig cells (entry sheet x) 1 } ∷ bs)
placed_more sig cells sheet wait bs x g l p c =
    let other : (y : ℕ) → IsOpen (set wait x false) y → (y ≡ x → ⊥) × IsOpen wait y =
    λ y o.
    let ne : y ≡ x → ⊥ = λ e. false≢true (sym (get_or-set_same wait x false false (omega (arith, c.small))) ∙ ap (λ (z : ℕ). get_or (set wait x false) z false) (sym e) ∙ o) in
    (ne, sym (get_or-set_other wait x y false false ne) ∙ o) in
    record {
      within = λ y o. p.within y (other y o).1;
      proper = (terms_are sig 1 (drop (entry sheet x) cells) (g.whole (entry sheet x) (p.within x c.is_open).1), c.lacks x c.is_open, p.apart x c.is_open, p.proper);
      apart = λ y o. ((λ e. (other y o).0 (sym e)), c.lacks y (other y o).1, p.apart y (other y o).1);
      solves = λ σ s. (s x c.small (p.within x c.is_open).1, p.solves σ s);
      solved = λ σ s y k b o. elim (eqb_tells y x) [
        | inl q ↦ ap σ q.1 ∙ s.0 ∙ ap (λ (z : ℕ). apply σ (part sig cells (entry sheet z) 1)) (sym q.1)
        | inr q ↦ p.solved σ s.1 y k b (sym (get_or-set_other wait x y false false q.1) ∙ o)
      ];
      free = λ y f. ((λ e. (let b = (p.within x c.is_open).1 in omega (arith, ap (entry sheet) e))), p.free y f);
      drawn = ((entry sheet x, refl), p.drawn);
    }

pub placed_all : (sig : List ℕ) (cells sheet : List Cell) (wait : List Bool) (bs : List Replacement) → opens wait ≡ 0 → Placed sig cells sheet wait bs → Ordered sig cells sheet bs
placed_all sig cells sheet wait bs z p = record {
  proper = p.proper;
  solves = p.solves;
  solved = λ σ s x l b. p.solved σ s x l b (opens_none wait z x);
  free = p.free;
  drawn = p.drawn;
}

-- the flags that are set, counted
pub opens_counted : (bs : List Bool) → opens bs ≡ count_by (λ b. b) bs
opens_counted = is_count_by opens (λ b. b) refl step
  where
    step : (b : Bool) (bs : List Bool) → opens (b ∷ bs) ≡ cond b (1 + opens bs) (opens bs)
    step true bs = omega arith
    step false bs = refl

-- one cell of a term that is looked through
pub lacks_more : (sig : List ℕ) (cells : List Cell) (i n y : ℕ) → Begins sig n (drop i cells) → 0 < n → ((at cells i).letter ≡ 86 → (at cells i).number ≡ y → ⊥)
    → Lacks y (terms sig (n - 1 + arity sig (at cells i)) (drop (i + 1) cells)) → Lacks y (terms sig n (drop i cells))
lacks_more sig cells i n y b pos h k = subst (Lacks y) (sym (step sig cells i n b pos).front) (h, k)

pub has_more : (sig : List ℕ) (cells : List Cell) (i n y : ℕ) → Begins sig n (drop i cells) → 0 < n
    → Has y (terms sig (n - 1 + arity sig (at cells i)) (drop (i + 1) cells)) → Has y (terms sig n (drop i cells))
has_more sig cells i n y b pos h = subst (Has y) (sym (step sig cells i n b pos).front) (inr h)

pub has_here : (sig : List ℕ) (cells : List Cell) (i n : ℕ) → Begins sig n (drop i cells) → 0 < n → (at cells i).letter ≡ 86 → Has (at cells i).number (terms sig n (drop i cells))
has_here sig cells i n b pos v = subst (Has (at cells i).number) (sym (step sig cells i n b pos).front) (inl (v, refl))

pub lacks_none : (sig : List ℕ) (cs : List Cell) (n y : ℕ) → n ≡ 0 → Lacks y (terms sig n cs)
lacks_none sig cs n y z = subst (Lacks y) (sym (ap (λ (m : ℕ). terms sig m cs) z ∙ terms_none sig cs)) tt

-- cells that are looked through one after another
pub lacks_all : (y : ℕ) (cs : List Cell) → ((k : ℕ) → k < length cs → (at cs k).letter ≡ 86 → (at cs k).number ≡ y → ⊥) → Lacks y cs
lacks_all y [] h = tt
lacks_all y (c ∷ cs) h = (h 0 (omega arith), lacks_all y cs (λ k l. h (suc k) (omega arith)))

pub has_at : (cs : List Cell) (k : ℕ) → k < length cs → (at cs k).letter ≡ 86 → Has (at cs k).number cs
has_at [] k l v = absurd (omega arith)
has_at (c ∷ cs) zero l v = inl (v, refl)
has_at (c ∷ cs) (suc k) l v = inr (has_at cs k (omega arith) v)
