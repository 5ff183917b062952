-- Every run is serial: by an invariant, one call after another.
use Rattle.std.proofs.Common.{◌≡◌, ℕ, ◌⊎◌, [], ◌∷◌, map, Some, Option, sym, refl, ap, ◌∙◌, subst, inl, inr, ⊎_elim}
use mathlib.Core.Path.{fun_ext}
use mathlib.Core.Logic.{⊎_swap, if_pos, if_neg, by_cases}
use native.Mathlib.Decide.{ℕ_discrete}
use Rattle.maps.specs.Maps.{Map, Same, In}
use Rattle.maps.proofs.Lists.{in_map, map_same}
use Rattle.serial.specs.Language.{Language}
use Rattle.serial.specs.Rights.{Right}
use Rattle.serial.specs.History.{Call, Event, History, Grant, Deed, begins, ends, commits, commit_numbers, grants, Open, Stands, script, fed, pattern_of}
use Rattle.serial.specs.History.{Event.refused, Event.began, Event.reserved, Event.did, Event.committed, Event.abandoned}
use Rattle.serial.specs.History.{Deed.looked, Deed.surveyed, Deed.changed}
use Rattle.serial.specs.Alone.{after, Answered, InTurn}
use Rattle.serial.specs.Serial.{Collide, Apart, Named, Serial}
use Rattle.serial.specs.Legal.{Allowed, Legal, Run, Run.new, Run.next}
use Rattle.serial.proofs.Covered.{Covered, covered_more, by_changes, answered_kept}

-- a reservation that was granted to t, standing or not
abbrev Had : {Row Pattern : Type 0} → History Row Pattern → ℕ → Grant Pattern → Type 0
Had h t g = In g (grants h) × (g.owner ≡ t)

module _ {Row Pattern : Type 0} (L : Language Row Pattern) (first : Map Row) where
  collide_swap : (g q : Grant Pattern) → Collide L g q → Collide L q g
  collide_swap g q x = ((λ e. x.0 (sym e)), ⊎_swap x.1, (x.2.0, x.2.2, x.2.1))

  -- the promises, and what carries them from call to call
  pub record Inv (h : History Row Pattern) (m : Map Row) : Type 0 where
    pub named : Named h
    pub apart : Apart L h
    pub in_turn : InTurn L (map (λ t. script t h) (commits h)) first m
    pub alone : (t : ℕ) → Open t h → Answered L (script t h) m
    -- each deed had a reservation for it, whether or not that still stands
    pub covered : (t : ℕ) → Covered L (Had h t) (script t h)
    pub numbered : (g : Grant Pattern) → In g (grants h) → pattern_of g.number (grants h) ≡ Some g.pattern
    pub unbegun : (t : ℕ) → ¬ In t (begins h) → script t h ≡ []
    pub owned : (g : Grant Pattern) → In g (grants h) → In g.owner (begins h)
    pub ended : (t : ℕ) → In t (commits h) → In t (ends h)

  pub moved : (h : History Row Pattern) (m m' : Map Row) → Same m' m → Inv h m → Inv h m'
  moved h m m' s i = subst (λ n. Inv h n) (sym (fun_ext s)) i

  pub inv_new : Inv [] first
  inv_new = record {
    named = record { transactions = tt; reservations = tt; commits = tt; endings = tt };
    apart = λ q g s. absurd s.0;
    in_turn = λ r. refl;
    alone = λ t o. tt;
    covered = λ t. tt;
    numbered = λ g i. absurd i;
    unbegun = λ t n. refl;
    owned = λ g i. absurd i;
    ended = λ t i. i;
  }

  module _ (h : History Row Pattern) (m : Map Row) (i : Inv h m) where
    after_refused : (c : Call Row Pattern) (n : ℕ) → Inv (refused c n ∷ h) m
    after_refused c n = record {
      named = record { transactions = i.named.transactions; reservations = i.named.reservations; commits = i.named.commits; endings = i.named.endings };
      apart = i.apart;
      in_turn = i.in_turn;
      alone = i.alone;
      covered = i.covered;
      numbered = i.numbered;
      unbegun = i.unbegun;
      owned = i.owned;
      ended = i.ended;
    }

    after_began : (planner t : ℕ) → ¬ In t (begins h) → Inv (began planner t ∷ h) m
    after_began planner t fresh = record {
      named = record { transactions = (fresh, i.named.transactions); reservations = i.named.reservations; commits = i.named.commits; endings = i.named.endings };
      apart = λ g q s s'. i.apart g q (s.0, (i.owned g s.0, s.1.1)) (s'.0, (i.owned q s'.0, s'.1.1));
      in_turn = i.in_turn;
      alone = λ u o. ⊎_elim
          (λ e. subst (λ s. Answered L s m) (sym (i.unbegun u (λ b. fresh (subst (λ x. In x (begins h)) e b)))) tt)
          (λ b. i.alone u (b, o.1))
          o.0;
      covered = i.covered;
      numbered = i.numbered;
      unbegun = λ u nb. i.unbegun u (λ b. nb (inr b));
      owned = λ g x. inr (i.owned g x);
      ended = i.ended;
    }

    after_abandoned : (t n : ℕ) → Open t h → Inv (abandoned t n ∷ h) m
    after_abandoned t n open_t = record {
      named = record { transactions = i.named.transactions; reservations = i.named.reservations; commits = i.named.commits; endings = (open_t.1, i.named.endings) };
      apart = λ g q s s'. i.apart g q (s.0, (s.1.0, λ e. s.1.1 (inr e))) (s'.0, (s'.1.0, λ e. s'.1.1 (inr e)));
      in_turn = i.in_turn;
      alone = λ u o. i.alone u (o.0, λ e. o.1 (inr e));
      covered = i.covered;
      numbered = i.numbered;
      unbegun = i.unbegun;
      owned = i.owned;
      ended = λ u c. inr (i.ended u c);
    }

    -- A commit changes only rows that fit a reservation for writing of its own, which no other open transaction's reservation fits.
    module _ (t : ℕ) (open_t : Open t h) (m' : Map Row) (left : Same m' (after L (script t h) m)) where
      unchanged : (u : ℕ) → Open u h → ¬ (u ≡ t) → (g : Grant Pattern) → Had h u g → (r : Row) → L.fits r g.pattern → m r ≡ m' r
      unchanged u open_u ne g had r f =
          sym (left r ∙ by_changes L (Had h t) r (λ k. (c : Option ℕ) → k c ≡ c) (λ c. refl)
          (λ g' had' f' a x k q c.
          absurd (i.apart g' g (had'.0, subst (λ y. Open y h) (sym had'.1) open_t) (had.0, subst (λ y. Open y h) (sym had.1) open_u)
          ((λ e. ne (sym had.1 ∙ sym e ∙ had'.1)), inl x, (r, f', f))))
          (script t h) (i.covered t) (m r))

      after_committed : (n : ℕ) → ¬ In n (commit_numbers h) → Inv (committed t n ∷ h) m'
      after_committed n fresh = record {
        named = record { transactions = i.named.transactions; reservations = i.named.reservations; commits = (fresh, i.named.commits); endings = (open_t.1, i.named.endings) };
        apart = λ g q s s'. i.apart g q (s.0, (s.1.0, λ e. s.1.1 (inr e))) (s'.0, (s'.1.0, λ e. s'.1.1 (inr e)));
        in_turn = (m, i.in_turn, i.alone t open_t, left);
        alone = λ u o.
            let open_u : Open u h = (o.0, λ e. o.1 (inr e)) in
            answered_kept L (Had h u) m m' (unchanged u open_u (λ e. o.1 (inl e)))
            (script u h) (i.covered u) (i.alone u open_u);
        covered = i.covered;
        numbered = i.numbered;
        unbegun = i.unbegun;
        owned = i.owned;
        ended = λ u. ⊎_elim inl (λ c. inr (i.ended u c));
      }

    module _ (t : ℕ) (w : Right) (p : Pattern) (n : ℕ) (open_t : Open t h)
        (fresh : (g : Grant Pattern) → In g (grants h) → ¬ (g.number ≡ n)) where
      abbrev this : Grant Pattern
      this = record { owner = t; right = w; pattern = p; number = n }

      module _ (clear : (g : Grant Pattern) → Stands h g → ¬ Collide L g this) where
        apart_new : (g q : Grant Pattern) → (g ≡ this) ⊎ In g (grants h) → (q ≡ this) ⊎ In q (grants h) → Open g.owner h → Open q.owner h → ¬ Collide L g q
        apart_new g q (inl e) (inl e') o o' x = x.0 (ap (λ z. z.owner) e ∙ sym (ap (λ z. z.owner) e'))
        apart_new g q (inr y) (inl e) o o' x = clear g (y, o) (subst (λ z. Collide L g z) e x)
        apart_new g q (inl e) (inr y) o o' x = clear q (y, o') (subst (λ z. Collide L q z) e (collide_swap g q x))
        apart_new g q (inr y) (inr y') o o' x = i.apart g q (y, o) (y', o') x

        after_reserved : Inv (reserved t w p n ∷ h) m
        after_reserved = record {
          named = record { transactions = i.named.transactions; reservations = ((λ x. let y = in_map (λ g. g.number) (grants h) n x in fresh y.0 y.1 (sym y.2)), i.named.reservations); commits = i.named.commits; endings = i.named.endings };
          apart = λ g q s s'. apart_new g q s.0 s'.0 s.1 s'.1;
          in_turn = i.in_turn;
          alone = i.alone;
          covered = λ u. covered_more L (Had h u) (Had (reserved t w p n ∷ h) u) (λ g x. (inr x.0, x.1)) (script u h) (i.covered u);
          numbered = λ g. ⊎_elim
              (λ e. subst (λ x. pattern_of x.number (this ∷ grants h) ≡ Some x.pattern) (sym e) (if_pos (ℕ_discrete n n) refl (Some p) (pattern_of n (grants h))))
              (λ x. if_neg (ℕ_discrete n g.number) (λ e. fresh g x (sym e)) (Some p) (pattern_of g.number (grants h)) ∙ i.numbered g x);
          unbegun = i.unbegun;
          owned = λ g. ⊎_elim (λ e. subst (λ x. In x.owner (begins h)) (sym e) open_t.0) (i.owned g);
          ended = i.ended;
        }

    answered_did : (t : ℕ) (d : Deed Row ℕ) → Allowed L h t m d → Answered L (script t h) m → Answered L (fed (grants h) d ∷ script t h) m
    answered_did t (looked r a) x s = (x.1, s)
    answered_did t (surveyed n number total) x s =
        subst (λ q. Answered L (surveyed q number total ∷ script t h) m)
        (sym (subst (λ k. pattern_of k (grants h) ≡ Some x.0.pattern) x.2 (i.numbered x.0 x.1.0.0)))
        (x.3, s)
    answered_did t (changed r a) x s = s

    covered_did : (t : ℕ) (d : Deed Row ℕ) → Allowed L h t m d → Covered L (Had h t) (script t h) → Covered L (Had h t) (fed (grants h) d ∷ script t h)
    covered_did t (looked r a) x s = ((x.0.0, (x.0.1.0.0, x.0.1.1), x.0.2), s)
    covered_did t (surveyed n number total) x s =
        subst (λ q. Covered L (Had h t) (surveyed q number total ∷ script t h))
        (sym (subst (λ k. pattern_of k (grants h) ≡ Some x.0.pattern) x.2 (i.numbered x.0 x.1.0.0)))
        ((x.0, (x.1.0.0, x.1.1), refl), s)
    covered_did t (changed r a) x s = ((x.0, (x.1.0.0, x.1.1), x.2, x.3), s)

    module _ (t : ℕ) (d : Deed Row ℕ) (open_t : Open t h) (allowed : Allowed L h t m d) where
      by_another : (u : ℕ) → ¬ (u ≡ t) → script u (did t d ∷ h) ≡ script u h
      by_another u ne = if_neg (ℕ_discrete u t) ne (fed (grants h) d ∷ script u h) (script u h)

      by_itself : script t (did t d ∷ h) ≡ fed (grants h) d ∷ script t h
      by_itself = if_pos (ℕ_discrete t t) refl (fed (grants h) d ∷ script t h) (script t h)

      after_did : Inv (did t d ∷ h) m
      after_did = record {
        named = record { transactions = i.named.transactions; reservations = i.named.reservations; commits = i.named.commits; endings = i.named.endings };
        apart = i.apart;
        in_turn = subst (λ ss. InTurn L ss first m)
            (sym (map_same (λ u. script u (did t d ∷ h)) (λ u. script u h) (commits h)
            (λ u c. by_another u (λ e. open_t.1 (subst (λ x. In x (ends h)) e (i.ended u c))))))
            i.in_turn;
        alone = λ u o. by_cases (ℕ_discrete u t)
            (λ e. subst (λ x. Answered L (script x (did t d ∷ h)) m) (sym e)
            (subst (λ s. Answered L s m) (sym by_itself) (answered_did t d allowed (i.alone t open_t))))
            (λ ne. subst (λ s. Answered L s m) (sym (by_another u ne)) (i.alone u o));
        covered = λ u. by_cases (ℕ_discrete u t)
            (λ e. subst (λ x. Covered L (Had h x) (script x (did t d ∷ h))) (sym e)
            (subst (λ s. Covered L (Had h t) s) (sym by_itself) (covered_did t d allowed (i.covered t))))
            (λ ne. subst (λ s. Covered L (Had h u) s) (sym (by_another u ne)) (i.covered u));
        numbered = i.numbered;
        unbegun = λ u nb. by_another u (λ e. nb (subst (λ x. In x (begins h)) (sym e) open_t.0)) ∙ i.unbegun u nb;
        owned = i.owned;
        ended = i.ended;
      }

  pub inv_next : (h : History Row Pattern) (m : Map Row) (e : Event Row Pattern) (m' : Map Row) → Inv h m → Legal L h m e m' → Inv (e ∷ h) m'
  inv_next h m (refused c n) m' i l = moved (refused c n ∷ h) m m' l (after_refused h m i c n)
  inv_next h m (began planner t) m' i l = moved (began planner t ∷ h) m m' l.1 (after_began h m i planner t l.0)
  inv_next h m (reserved t w p n) m' i l = moved (reserved t w p n ∷ h) m m' l.3 (after_reserved h m i t w p n l.0 l.1 l.2)
  inv_next h m (did t d) m' i l = moved (did t d ∷ h) m m' l.2 (after_did h m i t d l.0 l.1)
  inv_next h m (committed t n) m' i l = after_committed h m i t l.0 m' l.2 n l.1
  inv_next h m (abandoned t n) m' i l = moved (abandoned t n ∷ h) m m' l.1 (after_abandoned h m i t n l.0)

  pub invariant : {h : History Row Pattern} {m : Map Row} → Run L first h m → Inv h m
  invariant new = inv_new
  invariant (next {h} {m} e m' run l) = inv_next h m e m' (invariant run) l

  pub serial : (h : History Row Pattern) (m : Map Row) → Run L first h m → Serial L first h m
  serial h m run = let i = invariant run in record { named = i.named; apart = i.apart; in_turn = i.in_turn; alone = i.alone }
