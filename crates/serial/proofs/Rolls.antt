-- Facts about rolls: the entries that leave, and the changes of a transaction.
use Rattle.std.proofs.Common.{◌≡◌, ℕ, Bool, true, false, cond, not, eqb, ◌⊎◌, List, [], ◌∷◌, Some, None, filter, Option, sym, refl, ap, ◌∙◌, inl, inr, ⊎_elim, arith}
use mathlib.Core.Logic.{ite, if_pos, if_neg}
use Rattle.std.proofs.lemmas.Bool.{ne_eqb, eqb-false, not-true, not_from_false, both_ways}
use Rattle.maps.specs.Maps.{In}
use Rattle.maps.proofs.Lists.{in_kept, kept_in}
use Rattle.serial.specs.Rights.{Change, Change.written, Change.struck, becomes}
use Rattle.serial.specs.Machine.{Pending, KeysOnce, leave, is_for, pending_for, enter}

-- a later change makes the earlier one of no account
pub becomes_any : (a : Change) (c d : Option ℕ) → becomes a c ≡ becomes a d
becomes_any (written k) c d = refl
becomes_any struck c d = refl

pub none_found : (a : Change) → ◌≡◌ {A = Option Change} None (Some a) → ⊥
none_found a e = let z : ◌≡◌ {A = ℕ} 0 1 = cc in omega arith

module _ {A : Type 0} (owner : A → ℕ) (t : ℕ) where
  pub in_leave : (l : List A) (a : A) → In a (leave owner t l) → In a l × (¬ (owner a ≡ t))
  in_leave l a i = let x = in_kept (λ b. not (eqb (owner b) t)) l a i in (x.0, eqb-false (owner a) t (not-true (eqb (owner a) t) x.1))

  pub stays : (l : List A) (a : A) → In a l → ¬ (owner a ≡ t) → In a (leave owner t l)
  stays l a i ne = kept_in (λ b. not (eqb (owner b) t)) l a i (not_from_false (eqb (owner a) t) (ne_eqb (owner a) t ne))

module _ {Row : Type 0} (same : (r s : Row) → Dec (r ≡ s)) where
  pub pending_of_none : (t : ℕ) (r : Row) (cs : List (Pending Row)) → ((c : Pending Row) → In c cs → ¬ (c.owner ≡ t)) → pending_for same t r cs ≡ None
  pending_of_none t r [] f = refl
  pending_of_none t r (c ∷ cs) f =
      if_neg (is_for same t r c) (λ e. f c (inl refl) e.0) _ _ ∙ pending_of_none t r cs (λ b x. f b (inr x))

  -- a filter that keeps the changes of u keeps what is found
  pub pending_of_kept : (q : Pending Row → Bool) (u : ℕ) (r : Row) → ((c : Pending Row) → c.owner ≡ u → q c ≡ true) → (cs : List (Pending Row))
      → pending_for same u r (filter q cs) ≡ pending_for same u r cs
  pending_of_kept q u r f [] = refl
  pending_of_kept q u r f (c ∷ cs) = go (q c) refl (pending_of_kept q u r f cs)
    where
      go : (x : Bool) → q c ≡ x → pending_for same u r (filter q cs) ≡ pending_for same u r cs
          → pending_for same u r (cond x (c ∷ filter q cs) (filter q cs)) ≡ pending_for same u r (c ∷ cs)
      go true e ih = ap (λ z. ite (is_for same u r c) (Some c.change) z) ih
      go false e ih = ih ∙ sym (if_neg (is_for same u r c) (λ z. both_ways (q c) e (f c z.0)) _ _)

  pub pending_of_leave : (t u : ℕ) (r : Row) (cs : List (Pending Row)) → ¬ (u ≡ t) → pending_for same u r (leave (λ c. c.owner) t cs) ≡ pending_for same u r cs
  pending_of_leave t u r cs ne =
      pending_of_kept (λ c. not (eqb c.owner t)) u r (λ c e. not_from_false (eqb c.owner t) (ne_eqb c.owner t (λ z. ne (sym e ∙ z)))) cs

  pub enter_same : (t : ℕ) (r : Row) (a : Change) (cs : List (Pending Row)) → pending_for same t r (enter same t r a cs) ≡ Some a
  enter_same t r a [] = if_pos (is_for same t r (record { owner = t; row = r; change = a })) (refl, refl) _ _
  enter_same t r a (c ∷ cs) = go (is_for same t r c) (enter_same t r a cs)
    where
      go : (d : Dec ((c.owner ≡ t) × (c.row ≡ r))) → pending_for same t r (enter same t r a cs) ≡ Some a
          → pending_for same t r (ite d (record { owner = t; row = r; change = a } ∷ cs) (c ∷ enter same t r a cs)) ≡ Some a
      go (yes e) ih = if_pos (is_for same t r (record { owner = t; row = r; change = a })) (refl, refl) _ _
      go (no ne) ih = if_neg (is_for same t r c) ne _ _ ∙ ih

  pub enter_other : (t : ℕ) (r : Row) (a : Change) (u : ℕ) (q : Row) (cs : List (Pending Row)) → ¬ ((t ≡ u) × (r ≡ q))
      → pending_for same u q (enter same t r a cs) ≡ pending_for same u q cs
  enter_other t r a u q [] ne = if_neg (is_for same u q (record { owner = t; row = r; change = a })) ne _ _
  enter_other t r a u q (c ∷ cs) ne = go (is_for same t r c) (enter_other t r a u q cs ne)
    where
      go : (d : Dec ((c.owner ≡ t) × (c.row ≡ r))) → pending_for same u q (enter same t r a cs) ≡ pending_for same u q cs
          → pending_for same u q (ite d (record { owner = t; row = r; change = a } ∷ cs) (c ∷ enter same t r a cs)) ≡ pending_for same u q (c ∷ cs)
      go (yes e) ih =
          if_neg (is_for same u q (record { owner = t; row = r; change = a })) ne _ _
          ∙ sym (if_neg (is_for same u q c) (λ z. ne (sym e.0 ∙ z.0, sym e.1 ∙ z.1)) _ _)
      go (no _) ih = ap (λ z. ite (is_for same u q c) (Some c.change) z) ih

  pub in_enter : (t : ℕ) (r : Row) (a : Change) (cs : List (Pending Row)) (c : Pending Row) → In c (enter same t r a cs) → In c cs ⊎ ((c.owner ≡ t) × (c.row ≡ r))
  in_enter t r a [] c (inl e) = inr (ap (λ x. x.owner) e, ap (λ x. x.row) e)
  in_enter t r a [] c (inr x) = absurd x
  in_enter t r a (b ∷ cs) c x = go (is_for same t r b) x (λ y. in_enter t r a cs c y)
    where
      go : (d : Dec ((b.owner ≡ t) × (b.row ≡ r))) → In c (ite d (record { owner = t; row = r; change = a } ∷ cs) (b ∷ enter same t r a cs))
          → (In c (enter same t r a cs) → In c cs ⊎ ((c.owner ≡ t) × (c.row ≡ r))) → In c (b ∷ cs) ⊎ ((c.owner ≡ t) × (c.row ≡ r))
      go (yes e) (inl q) ih = inr (ap (λ x. x.owner) q, ap (λ x. x.row) q)
      go (yes e) (inr y) ih = inl (inr y)
      go (no _) (inl q) ih = inl (inl q)
      go (no _) (inr y) ih = ⊎_elim (λ z. inl (inr z)) inr (ih y)

  pub keys_enter : (t : ℕ) (r : Row) (a : Change) (cs : List (Pending Row)) → KeysOnce cs → KeysOnce (enter same t r a cs)
  keys_enter t r a [] k = ((λ c x. absurd x), tt)
  keys_enter t r a (b ∷ cs) k = go (is_for same t r b) (keys_enter t r a cs k.1)
    where
      go : (d : Dec ((b.owner ≡ t) × (b.row ≡ r))) → KeysOnce (enter same t r a cs) → KeysOnce (ite d (record { owner = t; row = r; change = a } ∷ cs) (b ∷ enter same t r a cs))
      go (yes e) ih = ((λ c x q. k.0 c x (q.0 ∙ sym e.0, q.1 ∙ sym e.1)), k.1)
      go (no ne) ih = ((λ c x q. ⊎_elim (λ y. k.0 c y q) (λ y. ne (sym q.0 ∙ y.0, sym q.1 ∙ y.1)) (in_enter t r a cs c x)), ih)

  -- where no row has two changes, each change in the roll is the one that is found
  pub found_in : (cs : List (Pending Row)) → KeysOnce cs → (c : Pending Row) → In c cs → pending_for same c.owner c.row cs ≡ Some c.change
  found_in [] k c x = absurd x
  found_in (b ∷ cs) k c (inl e) =
      if_pos (is_for same c.owner c.row b) (sym (ap (λ z. z.owner) e), sym (ap (λ z. z.row) e)) _ _ ∙ ap (λ z. Some z.change) (sym e)
  found_in (b ∷ cs) k c (inr x) =
      if_neg (is_for same c.owner c.row b) (λ q. k.0 c x (sym q.0, sym q.1)) _ _ ∙ found_in cs k.1 c x

  pub in_found : (cs : List (Pending Row)) (t : ℕ) (r : Row) (a : Change) → pending_for same t r cs ≡ Some a → In (record { owner = t; row = r; change = a }) cs
  in_found [] t r a e = absurd (none_found a e)
  in_found (b ∷ cs) t r a e = go (is_for same t r b) e (in_found cs t r a)
    where
      inj : (x y : Change) → ◌≡◌ {A = Option Change} (Some x) (Some y) → x ≡ y
      inj x y p = cc

      go : (d : Dec ((b.owner ≡ t) × (b.row ≡ r))) → ite d (Some b.change) (pending_for same t r cs) ≡ Some a
          → (pending_for same t r cs ≡ Some a → In (record { owner = t; row = r; change = a }) cs) → In (record { owner = t; row = r; change = a }) (b ∷ cs)
      go (yes q) e ih = inl (λ i. record { owner = sym q.0 i; row = sym q.1 i; change = sym (inj b.change a e) i })
      go (no _) e ih = inr (ih e)

pub keys_kept : {Row : Type 0} (q : Pending Row → Bool) (cs : List (Pending Row)) → KeysOnce cs → KeysOnce (filter q cs)
keys_kept q [] k = tt
keys_kept q (c ∷ cs) k = go (q c) (keys_kept q cs k.1)
  where
    go : (x : Bool) → KeysOnce (filter q cs) → KeysOnce (cond x (c ∷ filter q cs) (filter q cs))
    go true ih = ((λ b x. k.0 b (in_kept q cs b x).0), ih)
    go false ih = ih
