-- The changes of a transaction enter a map: what they leave, in whatever order they enter, and how many rows that has.
use Rattle.std.proofs.Common.{◌≡◌, ℕ, ◌+◌, ◌<◌, ◌≤◌, Bool, true, false, cond, ◌&&◌, eqb, ◌⊎◌, List, [], ◌∷◌, ◌++◌, is_some, Some, None, count_by, Option, sym, refl, ap, ◌∙◌, subst, ap₂, inl, inr, ⊎_elim, arith}
use mathlib.Core.Path.{fun_ext}
use mathlib.Core.Logic.{if_pos, if_neg, by_cases}
use mathlib.Core.Bool.{beq}
use native.Mathlib.Decide.{ℕ_discrete}
use Rattle.std.proofs.lemmas.List.Sums.{sum_by-cons}
use Rattle.std.proofs.lemmas.Bool.{eq-eqb, ne_eqb, eqb-true, and_parts, and_from, both_ways}
use Rattle.maps.specs.Maps.{In, Map, Same, Sized, with_row}
use Rattle.maps.specs.Sizes.{present}
use Rattle.maps.proofs.Lists.{in_append, append_left, append_right, in_kept, kept_in}
use Rattle.maps.proofs.Sizes.{sized_unique, sized_same, sized_row}
use Rattle.serial.specs.Rights.{Change, Change.written, Change.struck, becomes}
use Rattle.serial.specs.Machine.{Pending, KeysOnce, effect, is_for, pending_for, with_own}
use Rattle.serial.specs.Entering.{absence, chosen, alters, entered, Room}
use Rattle.serial.proofs.Rolls.{becomes_any, found_in, in_found, none_found}

self : (b : Bool) → beq b b ≡ true
self true = refl
self false = refl

beq_true : (x y : Bool) → beq x y ≡ true → x ≡ y
beq_true true true e = refl
beq_true true false e = absurd (both_ways false refl e)
beq_true false true e = absurd (both_ways false refl e)
beq_true false false e = refl

module _ {Row : Type 0} (a : Bool) (t : ℕ) (cs : List (Pending Row)) (c : Pending Row) where
  abbrev test : Pending Row → Bool
  test b = eqb b.owner t && beq (absence b.change) a

  pub in_chosen : In c (chosen a t cs) → In c cs × (c.owner ≡ t) × (absence c.change ≡ a)
  in_chosen i =
      let x = in_kept test cs c i in
      let y = and_parts (eqb c.owner t) (beq (absence c.change) a) x.1 in
      (x.0, eqb-true c.owner t y.0, beq_true (absence c.change) a y.1)

  chosen_in : In c cs → c.owner ≡ t → absence c.change ≡ a → In c (chosen a t cs)
  chosen_in i e q = kept_in test cs c i (and_from (eqb c.owner t) _ (eq-eqb c.owner t e) (ap (λ b. beq b a) q ∙ self a))

module _ {Row : Type 0} (same : (r s : Row) → Dec (r ≡ s)) where
  pub entered_append : (xs ys : List (Pending Row)) (m : Map Row) → entered same (xs ++ ys) m ≡ entered same ys (entered same xs m)
  entered_append [] ys m = refl
  entered_append (x ∷ xs) ys m = entered_append xs ys (with_row same m x.row (becomes x.change (m x.row)))

  untouched : (cs : List (Pending Row)) (m : Map Row) (r : Row) → ((c : Pending Row) → In c cs → ¬ (c.row ≡ r)) → entered same cs m r ≡ m r
  untouched [] m r f = refl
  untouched (c ∷ cs) m r f =
      untouched cs (with_row same m c.row (becomes c.change (m c.row))) r (λ b i. f b (inr i))
      ∙ if_neg (same r c.row) (λ e. f c (inl refl) (sym e)) _ (m r)

  -- all entries for the row have one change, so it does not matter which is the last
  touched : (cs : List (Pending Row)) (m : Map Row) (r : Row) (a : Change) → ((c : Pending Row) → In c cs → c.row ≡ r → c.change ≡ a)
      → ((c : Pending Row) × In c cs × (c.row ≡ r)) ⊎ (m r ≡ becomes a None) → entered same cs m r ≡ becomes a None
  touched [] m r a f (inl x) = absurd x.1
  touched [] m r a f (inr e) = e
  touched (c ∷ cs) m r a f x = touched cs left r a (λ b i. f b (inr i)) (by_cases (same r c.row) (λ e. inr (here e)) (λ ne. later ne x))
    where
      left : Map Row
      left = with_row same m c.row (becomes c.change (m c.row))

      here : r ≡ c.row → left r ≡ becomes a None
      here e = if_pos (same r c.row) e _ (m r) ∙ ap (λ b. becomes b (m c.row)) (f c (inl refl) (sym e)) ∙ becomes_any a (m c.row) None

      later : ¬ (r ≡ c.row) → ((b : Pending Row) × In b (c ∷ cs) × (b.row ≡ r)) ⊎ (m r ≡ becomes a None)
          → ((b : Pending Row) × In b cs × (b.row ≡ r)) ⊎ (left r ≡ becomes a None)
      later ne (inl x) = ⊎_elim (λ e. absurd (ne (sym x.2 ∙ ap (λ z. z.row) e))) (λ i. inl (x.0, i, x.2)) x.1
      later ne (inr e) = inr (if_neg (same r c.row) ne _ (m r) ∙ e)

  -- absences first, then counts: what a commit leaves is what the transaction saw
  pub commit_enters : (t : ℕ) (cs : List (Pending Row)) → KeysOnce cs → (m : Map Row)
      → Same (entered same (chosen false t cs) (entered same (chosen true t cs) m)) (with_own same t cs m)
  commit_enters t cs keys m r = sym (ap (λ f. f r) (entered_append (chosen true t cs) (chosen false t cs) m)) ∙ go (pending_for same t r cs) refl
    where
      both : List (Pending Row)
      both = chosen true t cs ++ chosen false t cs

      from : (c : Pending Row) → In c both → In c cs × (c.owner ≡ t)
      from c i = ⊎_elim
          (λ j. let x = in_chosen true t cs c j in (x.0, x.1)) (λ j. let x = in_chosen false t cs c j in (x.0, x.1))
          (in_append (chosen true t cs) (chosen false t cs) c i)

      found : (c : Pending Row) → In c both → c.row ≡ r → pending_for same t r cs ≡ Some c.change
      found c i e = let x = from c i in subst (λ q. pending_for same t q cs ≡ Some c.change) e (subst (λ u. pending_for same u c.row cs ≡ Some c.change) x.1 (found_in same cs keys c x.0))

      into : (b : Bool) (c : Pending Row) → In c cs → c.owner ≡ t → absence c.change ≡ b → In c both
      into true c i e q = append_left (chosen true t cs) (chosen false t cs) c (chosen_in true t cs c i e q)
      into false c i e q = append_right (chosen true t cs) (chosen false t cs) c (chosen_in false t cs c i e q)

      go : (v : Option Change) → pending_for same t r cs ≡ v → entered same both m r ≡ effect v (m r)
      go (Some a) q =
          touched both m r a (λ c i e. inj c.change a (sym (found c i e) ∙ q))
          (inl (record { owner = t; row = r; change = a }, into (absence a) (record { owner = t; row = r; change = a }) (in_found same cs t r a q) refl refl, refl))
          ∙ becomes_any a None (m r)
        where
          inj : (x y : Change) → ◌≡◌ {A = Option Change} (Some x) (Some y) → x ≡ y
          inj x y p = cc
      go None q = untouched both m r (λ c i e. none_found c.change (sym q ∙ found c i e))

  pub sized_entered : (cs : List (Pending Row)) (m : Map Row) (n : ℕ) → Sized m n → (n' : ℕ) × Sized (entered same cs m) n'
  sized_entered [] m n s = (n, s)
  sized_entered (c ∷ cs) m n s =
      let v = becomes c.change (m c.row) in
      let a = sized_row same m n c.row v s in
      sized_entered cs (with_row same m c.row v) a.0 a.1

  -- changes to counts only
  abbrev pub Counts : List (Pending Row) → Type 0
  Counts cs = (c : Pending Row) → In c cs → absence c.change ≡ false

  pub counts_chosen : (t : ℕ) (cs : List (Pending Row)) → Counts (chosen false t cs)
  counts_chosen t cs c i = (in_chosen false t cs c i).2

  at_most_one : (v : Option ℕ) → present v ≤ 1
  at_most_one (Some k) = omega arith
  at_most_one None = omega arith

  count_there : (a : Change) (c : Option ℕ) → absence a ≡ false → present (becomes a c) ≡ 1
  count_there (written k) c e = refl
  count_there struck c e = absurd (both_ways true e refl)

  -- such changes never make the map smaller
  grows : (cs : List (Pending Row)) (m : Map Row) (n : ℕ) → Counts cs → Sized m n → (n' : ℕ) × Sized (entered same cs m) n' × (n ≤ n')
  grows [] m n k s = (n, s, omega arith)
  grows (c ∷ cs) m n k s =
      let v = becomes c.change (m c.row) in
      let a = sized_row same m n c.row v s in
      let b = grows cs (with_row same m c.row v) a.0 (λ d i. k d (inr i)) a.1 in
      let one = count_there c.change (m c.row) (k c (inl refl)) in
      let most = at_most_one (m c.row) in
      (b.0, b.1, omega (arith, a.2, b.2, one, most))

  -- room for all is room for the first of them, and for the others once these have entered
  pub room_front : (xs ys : List (Pending Row)) (m : Map Row) (n places : ℕ) → Sized m n → Counts ys → Room same m (xs ++ ys) places → Room same m xs places
  room_front xs ys m n places s k room =
      let a = sized_entered xs m n s in
      let b = grows ys (entered same xs m) a.0 k a.1 in
      let e = sized_unique (entered same (xs ++ ys) m) room.size b.0 room.sized (subst (λ z. Sized z b.0) (sym (entered_append xs ys m)) b.1) in
      let w = room.within in
      record { size = a.0; sized = a.1; within = omega (arith, b.2, e, w) }

  pub room_back : (xs ys : List (Pending Row)) (m m' : Map Row) (places : ℕ) → Same m' (entered same xs m) → Room same m (xs ++ ys) places → Room same m' ys places
  room_back xs ys m m' places e room = record {
    size = room.size;
    sized = subst (λ z. Sized z room.size) (entered_append xs ys m ∙ ap (entered same ys) (sym (fun_ext e))) room.sized;
    within = room.within;
  }

  -- where there is room, a new row finds a free place
  pub room_new : (m : Map Row) (c : Pending Row) (k n places : ℕ) → c.change ≡ written k → Sized m n → Room same m (c ∷ []) places → is_some (m c.row) ≡ false → n < places
  room_new m c k n places w s room e =
      let v = becomes c.change (m c.row) in
      let a = sized_row same m n c.row v s in
      let u = sized_unique (with_row same m c.row v) room.size a.0 room.sized a.1 in
      let z : present (m c.row) ≡ 0 = ap (λ b. cond b 1 0) e in
      let one = count_there c.change (m c.row) (ap absence w) in
      let x = room.within in
      omega (arith, a.2, u, z, one, x)

  -- the size of what a commit leaves, from counts that are taken on the map as it was
  module _ (t : ℕ) where
    fourfold : (a : Change) (x : Option ℕ) (n n' : ℕ) → n' + present x ≡ n + present (becomes a x)
        → n' + cond (beq (absence a) true && beq (is_some x) true) 1 0 ≡ n + cond (beq (absence a) false && beq (is_some x) false) 1 0
    fourfold (written k) (Some j) n n' e = omega arith
    fourfold (written k) None n n' e = omega arith
    fourfold struck (Some j) n n' e = omega arith
    fourfold struck None n n' e = omega arith

    alters_own : (a : Bool) (m : Map Row) (c : Pending Row) → c.owner ≡ t → alters a t m c ≡ (beq (absence c.change) a && beq (is_some (m c.row)) a)
    alters_own a m c e = ap (λ b. b && (beq (absence c.change) a && beq (is_some (m c.row)) a)) (eq-eqb c.owner t e)

    alters_not : (a : Bool) (m : Map Row) (c : Pending Row) → ¬ (c.owner ≡ t) → alters a t m c ≡ false
    alters_not a m c ne = ap (λ b. b && (beq (absence c.change) a && beq (is_some (m c.row)) a)) (ne_eqb c.owner t ne)

    recount : (a : Bool) (m : Map Row) (r : Row) (v : Option ℕ) (cs : List (Pending Row)) → ((c : Pending Row) → In c cs → ¬ ((c.owner ≡ t) × (c.row ≡ r)))
        → count_by (alters a t (with_row same m r v)) cs ≡ count_by (alters a t m) cs
    recount a m r v [] f = refl
    recount a m r v (c ∷ cs) f =
        sum_by-cons (λ x. cond (alters a t (with_row same m r v) x) 1 0) c cs
        ∙ ap₂ ◌+◌ (ap (λ b. cond b 1 0) (by_cases (ℕ_discrete c.owner t)
        (λ e. ap (λ o. eqb c.owner t && (beq (absence c.change) a && beq (is_some o) a)) (if_neg (same c.row r) (λ q. f c (inl refl) (e, q)) v (m c.row)))
        (λ ne. alters_not a (with_row same m r v) c ne ∙ sym (alters_not a m c ne)))) (recount a m r v cs (λ b i. f b (inr i)))
        ∙ sym (sum_by-cons (λ x. cond (alters a t m x) 1 0) c cs)

    left_own : (c : Pending Row) (cs : List (Pending Row)) (m : Map Row) → c.owner ≡ t → ((b : Pending Row) → In b cs → ¬ ((b.owner ≡ c.owner) × (b.row ≡ c.row)))
        → Same (with_own same t (c ∷ cs) m) (with_own same t cs (with_row same m c.row (becomes c.change (m c.row))))
    left_own c cs m e f r = by_cases (same c.row r)
        (λ q. ap (λ o. effect o (m r)) (if_pos (is_for same t r c) (e, q) (Some c.change) (pending_for same t r cs))
        ∙ sym (ap (λ o. effect o (left r)) (none r q (pending_for same t r cs) refl) ∙ if_pos (same r c.row) (sym q) _ (m r) ∙ ap (λ x. becomes c.change (m x)) q))
        (λ ne. ap (λ o. effect o (m r)) (if_neg (is_for same t r c) (λ z. ne z.1) (Some c.change) (pending_for same t r cs))
        ∙ ap (effect (pending_for same t r cs)) (sym (if_neg (same r c.row) (λ z. ne (sym z)) _ (m r))))
      where
        left : Map Row
        left = with_row same m c.row (becomes c.change (m c.row))

        none : (r : Row) → c.row ≡ r → (o : Option Change) → pending_for same t r cs ≡ o → o ≡ None
        none r q (Some a) z = absurd (f (record { owner = t; row = r; change = a }) (in_found same cs t r a z) (sym e, sym q))
        none r q None z = refl

    left_not : (c : Pending Row) (cs : List (Pending Row)) (m : Map Row) → ¬ (c.owner ≡ t) → Same (with_own same t (c ∷ cs) m) (with_own same t cs m)
    left_not c cs m ne r = ap (λ o. effect o (m r)) (if_neg (is_for same t r c) (λ z. ne z.0) (Some c.change) (pending_for same t r cs))

    pub sized_own : (cs : List (Pending Row)) → KeysOnce cs → (m : Map Row) (n : ℕ) → Sized m n
        → (n' : ℕ) × Sized (with_own same t cs m) n' × (n' + count_by (alters true t m) cs ≡ n + count_by (alters false t m) cs)
    sized_own [] k m n s = (n, s, refl)
    sized_own (c ∷ cs) k m n s =
        let s1 = sum_by-cons (λ x. cond (alters true t m x) 1 0) c cs in
        let s2 = sum_by-cons (λ x. cond (alters false t m x) 1 0) c cs in
        by_cases (ℕ_discrete c.owner t)
        (λ e.
        let v = becomes c.change (m c.row) in
        let a = sized_row same m n c.row v s in
        let b = sized_own cs k.1 (with_row same m c.row v) a.0 a.1 in
        let f = fourfold c.change (m c.row) n a.0 a.2 in
        let out : (d : Pending Row) → In d cs → ¬ ((d.owner ≡ t) × (d.row ≡ c.row)) = λ d i z. k.0 d i (z.0 ∙ sym e, z.1) in
        let r1 = recount true m c.row v cs out in
        let r2 = recount false m c.row v cs out in
        let o1 : ◌≡◌ {A = ℕ} (cond (alters true t m c) 1 0) (cond (beq (absence c.change) true && beq (is_some (m c.row)) true) 1 0) = ap (λ b. cond b 1 0) (alters_own true m c e) in
        let o2 : ◌≡◌ {A = ℕ} (cond (alters false t m c) 1 0) (cond (beq (absence c.change) false && beq (is_some (m c.row)) false) 1 0) = ap (λ b. cond b 1 0) (alters_own false m c e) in
        (b.0, sized_same (with_own same t cs (with_row same m c.row v)) (with_own same t (c ∷ cs) m) b.0 (left_own c cs m e k.0) b.1, omega (arith, b.2, f, r1, r2, s1, s2, o1, o2)))
        (λ ne.
        let b = sized_own cs k.1 m n s in
        let o1 : ◌≡◌ {A = ℕ} (cond (alters true t m c) 1 0) 0 = ap (λ b. cond b 1 0) (alters_not true m c ne) in
        let o2 : ◌≡◌ {A = ℕ} (cond (alters false t m c) 1 0) 0 = ap (λ b. cond b 1 0) (alters_not false m c ne) in
        (b.0, sized_same (with_own same t cs m) (with_own same t (c ∷ cs) m) b.0 (left_not c cs m ne) b.1, omega (arith, b.2, s1, s2, o1, o2)))
