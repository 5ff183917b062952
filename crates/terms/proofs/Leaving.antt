-- Reading cells: what is to come after them.
use Rattle.std.proofs.Common.{◌≡◌, ℕ, zero, suc, ◌+◌, ◌-◌, ◌<◌, ◌≤◌, Bool, cond, eqb, List, [], ◌∷◌, ◌++◌, length, get_or, take, sym, refl, ap, ◌∙◌, subst, arith}
use Rattle.std.proofs.lemmas.List.{take_more, get_or_past}
use Rattle.std.proofs.lemmas.Bool.{ne_eqb, cond_both}
use Rattle.terms.specs.declared.cell.Cell.{Cell}
use Rattle.terms.specs.Terms.{arity, Leaves}

module _ (sig : List ℕ) where
  -- no arguments follow what is no symbol, or a symbol past the signature
  pub arity_none : (c : Cell) → (c.letter ≡ 83 → ⊥) → 0 ≡ arity sig c
  arity_none c h = ap (λ (b : Bool). cond b (get_or sig c.number 0) 0) (sym (ne_eqb c.letter 83 h))

  pub arity_past : (c : Cell) → length sig ≤ c.number → 0 ≡ arity sig c
  arity_past c h = cond_both (eqb c.letter 83) (get_or sig c.number 0) 0 (λ n. 0 ≡ n) (λ _. sym (get_or_past sig c.number 0 h)) (λ _. refl)

  -- cells after cells
  pub leaves_append : (n m k : ℕ) (xs ys : List Cell) → Leaves sig n xs m → Leaves sig m ys k → Leaves sig n (xs ++ ys) k
  leaves_append n m k [] ys h j = subst (λ (z : ℕ). Leaves sig z ys k) (sym h) j
  leaves_append zero m k (x ∷ xs) ys h j = absurd h
  leaves_append (suc n) m k (x ∷ xs) ys h j = leaves_append (arity sig x + n) m k xs ys h j

  pub leaves_split : (n k : ℕ) (xs ys : List Cell) → Leaves sig n (xs ++ ys) k → (m : ℕ) × Leaves sig n xs m × Leaves sig m ys k
  leaves_split n k [] ys h = (n, refl, h)
  leaves_split zero k (x ∷ xs) ys h = absurd h
  leaves_split (suc n) k (x ∷ xs) ys h = leaves_split (arity sig x + n) k xs ys h

  -- one number is to come
  pub leaves_one : (n m k : ℕ) (xs : List Cell) → Leaves sig n xs m → Leaves sig n xs k → m ≡ k
  leaves_one n m k [] h j = sym h ∙ j
  leaves_one zero m k (x ∷ xs) h j = absurd h
  leaves_one (suc n) m k (x ∷ xs) h j = leaves_one (arity sig x + n) m k xs h j

  -- a term that is to come needs a cell at least
  pub leaves_few : (n : ℕ) (xs : List Cell) → Leaves sig n xs 0 → n ≤ length xs
  leaves_few n [] h = omega arith
  leaves_few zero (x ∷ xs) h = absurd h
  leaves_few (suc n) (x ∷ xs) h = let l = leaves_few (arity sig x + n) xs h in omega arith

  -- one cell
  pub leaves_cell : (n m : ℕ) (c : Cell) → Leaves sig n (c ∷ []) m → (0 < n) × (m ≡ n - 1 + arity sig c)
  leaves_cell zero m c h = absurd h
  leaves_cell (suc n) m c h = (omega arith, omega arith)

  pub cell_leaves : (n : ℕ) (c : Cell) → 0 < n → Leaves sig n (c ∷ []) (n - 1 + arity sig c)
  cell_leaves zero c l = absurd (omega arith)
  cell_leaves (suc n) c l = omega arith

  -- one cell more
  pub leaves_more : (n m i : ℕ) (cs : List Cell) (d : Cell) → i < length cs → 0 < m → Leaves sig n (take i cs) m
      → Leaves sig n (take (i + 1) cs) (m - 1 + arity sig (get_or cs i d))
  leaves_more n m i cs d l w h =
      let k : ℕ = m - 1 + arity sig (get_or cs i d) in
      subst (λ (xs : List Cell). Leaves sig n xs k) (sym (take_more cs i d l))
      (leaves_append n m k (take i cs) (get_or cs i d ∷ []) h (cell_leaves m (get_or cs i d) w))
