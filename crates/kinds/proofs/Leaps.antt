-- The steps of the search for a common code, over any kind.
use Rattle.std.proofs.Common.{◌≡◌, ℕ, ◌<◌, ◌≤◌, true, List, [], ◌∷◌, length, get_or, take, map, is_some, Some, None, Option, MatchOption, sym, refl, ◌∙◌, subst, ⊎_elim, zero-le, arith}
use Rattle.std.proofs.ByRecursion.{All-get_or, All-take}
use Rattle.std.proofs.lemmas.Iterator.{YieldsList}
use Rattle.std.proofs.lemmas.Iterator.Consumers.{YieldsList-so_far, YieldsList-turn, YieldsList-end}
use Rattle.std.specs.ControlFlow.{continue_value}
use Rattle.std.specs.declared.ops.ControlFlow.{ControlFlow}
use Rattle.std.specs.Fn.{Called}
use Rattle.std.specs.Iterator.{TryFoldsItems, TryFoldTurn, YieldsThen}
use Rattle.std.specs.List.{FoldsTo}
use denote.Param.Members.{Mut}
use denote.Ref.{Bor}
use Rattle.std.proofs.lemmas.Bool.{cases_lt, false≢true}
use Rattle.kinds.specs.Common.{Holds, Meets, OfLetter, Passed, SmallestValue}
use Rattle.kinds.specs.Meaning.{Meaning, Under, Sound}
use Rattle.kinds.specs.Smallest.{Smallest}
use Rattle.kinds.specs.declared.condition.Condition.{Condition}

-- what is there
there : (o : Option ℕ) → is_some o ≡ true → (x : ℕ) × (o ≡ Some x)
there (Some x) e = (x, refl)
there None e = absurd (false≢true e)

under_low : (o : Option ℕ) (c : ℕ) → ((t : ℕ) → o ≡ Some t → t ≤ 999999999) → Under o c → c ≤ 999999999
under_low None c b u = absurd u
under_low (Some t) c b u = omega (arith, b t refl)

-- a code that is held is at most 999,999,999: its condition belongs to a letter, and the letter has a top
pub held_low : (M : Meaning) → Sound M → (q : Condition) (c : ℕ) → M.holds q c → c ≤ 999999999
held_low M s q c h =
    let l = there (M.letters q) (s.known q c h) in
    under_low (M.tops l.0) c (s.bounded l.0) (s.values q l.0 c l.1 h)

-- One round: from v to the first condition's next code, and on by one pass over the rest.
module _ (M : Meaning) (q : Condition) (qs : List Condition) (v start : ℕ) (first : Smallest (M.holds q) v (Some start)) where
  pub round_none : Passed M qs start None → (c : ℕ) → v ≤ c → Holds M (q ∷ qs) c → ⊥
  round_none none c l m = ⊎_elim (λ b. first.2 c l b m.0) (λ b. none c b m.1) (cases_lt c start)

  module _ (low : ℕ) (passed : Passed M qs start (Some low)) where
    pub round_over : (c : ℕ) → v ≤ c → c < low → Holds M (q ∷ qs) c → ⊥
    round_over c l u m = ⊎_elim (λ b. first.2 c l b m.0) (λ b. passed.1 c b u m.1) (cases_lt c start)

    pub round_stays : low ≡ v → Holds M (q ∷ qs) v
    round_stays e =
        let same : start ≡ v = omega (arith, first.0, passed.0) in
        let all : low ≡ start = omega arith in
        (subst (M.holds q) same first.1, subst (λ (n : ℕ). Holds M qs n) same (passed.2 all))

    pub round_low : Sound M → low ≤ 999999999
    round_low s = ⊎_elim (λ b. passed.3 b) (λ b. omega (arith, held_low M s q start first.1, passed.0)) (cases_lt start low)

-- One pass, as a fold of calls that each take v up to the next code of a condition, or break off where it has none.
module _ (M : Meaning) (sound : Sound M) where
  passed_first : (q : Condition) (qs : List Condition) (v start low : ℕ) → Smallest (M.holds q) v (Some start) → Passed M qs start (Some low)
      → Passed M (q ∷ qs) v (Some low)
  passed_first q qs v start low first rest = (
    omega (arith, first.0, rest.0),
    round_over M q qs v start first low rest,
    round_stays M q qs v start first low rest,
    λ _. round_low M q qs v start first low rest sound,
  )

  -- the conditions before i are passed, and that at i has no code left
  broken_off : (qs : List Condition) (i : ℕ) (d : Condition) → i < length qs → (v low : ℕ) → Passed M (take i qs) v (Some low)
      → Smallest (M.holds (get_or qs i d)) low None → Passed M qs v None
  broken_off qs i d here v low passed none = λ c l m.
      ⊎_elim (λ b. passed.1 c l b (All-take (λ q. M.holds q c) i qs m)) (λ b. none c b (All-get_or (λ q. M.holds q c) qs i d here m)) (cases_lt c low)

  module _ {F : Type 0} (f : F) (R : F × ℕ → Bor Condition → F × ℕ → Type 0)
      (turn : (a : ℕ) (x : Bor Condition) (p : F × ℕ) → R (f, a) x p → (p.0 ≡ f) × Smallest (M.holds x.now) a (Some p.1)) where
    passed_all : (xs : List (Bor Condition)) (v : ℕ) (p : F × ℕ) → FoldsTo R (f, v) xs p → (p.0 ≡ f) × Passed M (map (λ x. x.now) xs) v (Some p.1)
    passed_all [] v p e =
        subst (λ (z : F × ℕ). (z.0 ≡ f) × Passed M [] v (Some z.1)) e (refl, (omega arith, λ c l u _. omega arith, λ _. tt, λ u. omega arith))
    passed_all (x ∷ xs) v p e =
        let t = turn v x e.0 e.1 in
        let rest = passed_all xs e.0.1 p (subst (λ (z : F). FoldsTo R (z, e.0.1) xs p) t.0 e.2) in
        (rest.0, passed_first x.now (map (λ x. x.now) xs) v e.0.1 p.1 t.1 rest.1)

  module _ {S F E : Type 0} {steps : S → Option (Bor Condition) → S → Type 0} (s u : S) (g : Mut F (ℕ × (Bor Condition × Unit {0})) (Option ℕ))
      (f : F) (qs : List Condition) (v : ℕ) (r : Option ℕ) where
    pub passed_by_fold : TryFoldsItems steps g (λ x (c : ControlFlow E ℕ). x ≡ continue_value c) (λ _ x. x ≡ None) s f v r u → YieldsList steps (λ x. x.now) s qs
        → ((a : ℕ) (x : Bor Condition) (o : Option ℕ) (h : F) → Called g f (a, (x, tt)) o h → (h ≡ f) × Smallest (M.holds x.now) a o)
        → Passed M qs v r
    passed_by_fold ran road called = done ran.1 ran.4 ran.6
      where
        R : F × ℕ → Bor Condition → F × ℕ → Type 0
        R = TryFoldTurn {E = E} g (λ x c. x ≡ continue_value c)

        turn : (a : ℕ) (x : Bor Condition) (p : F × ℕ) → R (f, a) x p → (p.0 ≡ f) × Smallest (M.holds x.now) a (Some p.1)
        turn a x p t =
            let k = called a x t.0 p.0 t.1 in
            (k.0, subst (λ (o : Option ℕ). Smallest (M.holds x.now) a o) t.2 k.1)

        all : (ran.2 ≡ f) × Passed M (map (λ x. x.now) ran.0) v (Some ran.3)
        all = passed_all f R turn ran.0 v (ran.2, ran.3) ran.5

        done : (o : Option (Bor Condition)) → YieldsThen steps s ran.0 o u
            → MatchOption o (r ≡ Some ran.3) (λ x. (w : Option ℕ) × (h : F) × (e : E) × Called g ran.2 (ran.3, (x, tt)) w h × (w ≡ None) × (r ≡ None))
            → Passed M qs v r
        done None y l =
            let whole = YieldsList-end road ran.0 y.0 y.1 None u refl y.2 in
            subst (λ (z : List Condition). Passed M z v r) whole.0 (subst (λ (z : Option ℕ). Passed M (map (λ x. x.now) ran.0) v z) (sym l) all.1)
        done (Some x) y l =
            let so_far = YieldsList-so_far road ran.0 y.0 y.1 in
            let here = YieldsList-turn road ran.0 y.0 y.1 (Some x) u x refl y.2 in
            let k = called ran.3 x l.0 l.1 (subst (λ (z : F). Called g z (ran.3, (x, tt)) l.0 l.1) all.0 l.3) in
            let none : Smallest (M.holds x.now) ran.3 None = subst (λ (o : Option ℕ). Smallest (M.holds x.now) ran.3 o) l.4 k.1 in
            subst (λ (z : Option ℕ). Passed M qs v z) (sym l.5)
            (broken_off qs (length ran.0) x.now here.0 v ran.3 (subst (λ (z : List Condition). Passed M z v (Some ran.3)) so_far all.1)
            (subst (λ (q : Condition). Smallest (M.holds q) ran.3 None) here.1 none))

-- A value meets conditions exactly when its letter is theirs and its code is in their sets.
module _ (M : Meaning) (l c : ℕ) where
  pub meets_of : (qs : List Condition) → OfLetter M qs l → Holds M qs c → Meets M qs l c
  meets_of [] a b = tt
  meets_of (q ∷ qs) a b = ((a.0, b.0), meets_of qs a.1 b.1)

  pub meets_letter : (qs : List Condition) → Meets M qs l c → OfLetter M qs l
  meets_letter [] m = tt
  meets_letter (q ∷ qs) m = (m.0.0, meets_letter qs m.1)

  pub meets_holds : (qs : List Condition) → Meets M qs l c → Holds M qs c
  meets_holds [] m = tt
  meets_holds (q ∷ qs) m = (m.0.1, meets_holds qs m.1)

-- the value with the conditions' letter and the smallest code of all their sets is the smallest value
pub smallest_value : (M : Meaning) (q : Condition) (qs : List Condition) (l c : ℕ) → OfLetter M (q ∷ qs) l → Smallest (Holds M (q ∷ qs)) 0 (Some c)
    → SmallestValue M (q ∷ qs) (Some (record { letter = l; code = c }))
smallest_value M q qs l c a s = (
  meets_of M l c (q ∷ qs) a s.1,
  λ k d m.
      let e : Some k ≡ Some l = sym (meets_letter M k d (q ∷ qs) m).0 ∙ a.0 in
      (cc, ⊎_elim (λ b. absurd (s.2 d zero-le b (meets_holds M k d (q ∷ qs) m))) (λ b. b) (cases_lt d c)),
)
