-- The rolls say of the open transactions what the history says, so each step of the manager is a legal call.
use Rattle.std.proofs.Common.{◌≡◌, ℕ, ◌≤◌, ◌⊎◌, ◌↔◌, List, [], ◌∷◌, Some, Option, sym, refl, ap, ◌∙◌, subst, inl, inr, ⊎_elim, arith}
use mathlib.Core.Path.{fun_ext}
use mathlib.Core.Logic.{ite, if_pos, if_neg, by_cases}
use native.Mathlib.Decide.{ℕ_discrete}
use Rattle.maps.specs.Maps.{Map, In}
use Rattle.maps.proofs.Lists.{in_push, push_old, push_new}
use Rattle.maps.proofs.Figures.{figures_same}
use Rattle.serial.specs.Language.{Language}
use Rattle.serial.specs.Rights.{Change, Right, becomes}
use Rattle.serial.specs.History.{Event, History, Grant, Deed, begins, ends, commit_numbers, grants, Open, Stands, script, fed}
use Rattle.serial.specs.History.{Event.refused, Event.began, Event.reserved, Event.did, Event.committed, Event.abandoned}
use Rattle.serial.specs.History.{Deed.looked, Deed.surveyed, Deed.changed}
use Rattle.serial.specs.Alone.{change, after}
use Rattle.serial.specs.Serial.{Serial}
use Rattle.serial.specs.Legal.{Own, Allowed, Legal, Run, Run.new, Run.next}
use Rattle.serial.specs.Machine.{Pending, State, KeysOnce, effect, pending_for, enter, seen, Mine, Does, May, holding, gone, Alike, Moves, New, Comes, Comes.anew, Comes.on}
use Rattle.serial.specs.Machine as machine
use Rattle.serial.proofs.Invariant.{Inv, invariant, serial}
use Rattle.serial.proofs.Rolls.{in_leave, stays, pending_of_none, pending_of_leave, enter_same, enter_other, in_enter, keys_enter, keys_kept, becomes_any}

module _ {Row Pattern : Type 0} (L : Language Row Pattern) where
  pub record Ties (h : History Row Pattern) (s : State Row Pattern) : Type 0 where
    pub opens : (t : ℕ) → In t s.opens ↔ Open t h
    pub held : (g : Grant Pattern) → In g s.held ↔ Stands h g
    pub pending : (t : ℕ) (r : Row) → Open t h → (c : Option ℕ) → effect (pending_for L.same t r s.pending) c ≡ change L (script t h) r c
    pub begun : (t : ℕ) → In t (begins h) → t ≤ s.last_transaction
    pub granted : (g : Grant Pattern) → In g (grants h) → g.number ≤ s.last_reservation
    pub answered : (n : ℕ) → In n (commit_numbers h) → n ≤ s.last_commit
    pub owners : (c : Pending Row) → In c s.pending → In c.owner (begins h)
    pub ended : (t : ℕ) → In t (ends h) → In t (begins h)
    pub once : KeysOnce s.pending

  carry : (h : History Row Pattern) (s u : State Row Pattern) → Alike L s u → Ties h u → Ties h s
  carry h s u a τ = record {
    opens = λ t. subst (λ l. In t l ↔ Open t h) (sym a.opens) (τ.opens t);
    held = λ g. subst (λ l. In g l ↔ Stands h g) (sym a.held) (τ.held g);
    pending = λ t r o c. subst (λ l. effect (pending_for L.same t r l) c ≡ change L (script t h) r c) (sym a.pending) (τ.pending t r o c);
    begun = λ t b. subst (λ n. t ≤ n) (sym a.last_transaction) (τ.begun t b);
    granted = λ g x. subst (λ n. g.number ≤ n) (sym a.last_reservation) (τ.granted g x);
    answered = λ n x. subst (λ k. n ≤ k) (sym a.last_commit) (τ.answered n x);
    owners = λ c x. τ.owners c (subst (λ l. In c l) a.pending x);
    ended = τ.ended;
    once = subst (λ l. KeysOnce l) (sym a.pending) τ.once;
  }

  module _ (h : History Row Pattern) (s : State Row Pattern) (τ : Ties h s) where
    seen_after : (t : ℕ) → Open t h → (r : Row) → seen L s t r ≡ after L (script t h) s.store r
    seen_after t o r = τ.pending t r o (s.store r)

    own : (t : ℕ) (g : Grant Pattern) → Mine L s t g → Own h t g
    own t g x = ((τ.held g).0 x.0, x.1)

    allowed : (t : ℕ) → Open t h → (d : Deed Row ℕ) → Does L s t d → Allowed L h t s.store d
    allowed t o (looked r v) x = ((x.0.0, own t x.0.0 x.0.1, x.0.2), x.1 ∙ seen_after t o r)
    allowed t o (surveyed n number total) x = (
      x.0,
      own t x.0 x.1,
      x.2,
      figures_same (λ r. L.fits r x.0.pattern) (seen L s t) (after L (script t h) s.store) number total (λ r f. seen_after t o r) x.3,
    )
    allowed t o (changed r a) x = (x.0, own t x.0 x.1, x.2, x.3)

    legal : (e : Event Row Pattern) (s' : State Row Pattern) → Moves L s e s' → Legal L h s.store e s'.store
    legal (refused c n) s' l = l.1.store
    legal (began planner t) s' l = ((λ b. let k = τ.begun t b in let q = l.0 in omega arith), l.1.store)
    legal (reserved t w p n) s' l = (
      (τ.opens t).0 l.0.0,
      (λ g x e. let k = τ.granted g x in let q = l.0.1 in omega arith),
      (λ g x. l.0.2 g ((τ.held g).1 x)),
      l.1.store,
    )
    legal (did t (looked r v)) s' l = let o = (τ.opens t).0 l.0.0 in (o, allowed t o (looked r v) l.0.1, l.1.store)
    legal (did t (surveyed n number total)) s' l = let o = (τ.opens t).0 l.0.0 in (o, allowed t o (surveyed n number total) l.0.1, l.1.store)
    legal (did t (changed r a)) s' l = let o = (τ.opens t).0 l.0.0 in (o, allowed t o (changed r a) l.0.1, l.1.store)
    legal (committed t n) s' l =
        let o = (τ.opens t).0 l.0.0 in
        (o, (λ x. let k = τ.answered n x in let q = l.0.1 in omega arith), λ r. l.1.store r ∙ seen_after t o r)
    legal (abandoned t n) s' l = ((τ.opens t).0 l.0, l.1.store)

    module _ (first : Map Row) (i : Inv L first h s.store) where
      tied_began : (planner t : ℕ) → May L s (began planner t) → Ties (began planner t ∷ h) (machine.next L s (began planner t))
      tied_began planner t may =
          let fresh : ¬ In t (begins h) = λ b. let k = τ.begun t b in omega arith in
          record {
            opens = λ u. (
              (λ x. ⊎_elim (λ y. (inr ((τ.opens u).0 y).0, ((τ.opens u).0 y).1))
                  (λ e. (inl e, λ z. fresh (subst (λ v. In v (begins h)) e (τ.ended u z))))
                  (in_push s.opens t u x)),
              (λ o. ⊎_elim (λ e. push_new s.opens t u e) (λ b. push_old s.opens t u ((τ.opens u).1 (b, o.1))) o.0),
            );
            held = λ g. (
              (λ x. (((τ.held g).0 x).0, (inr ((τ.held g).0 x).1.0, ((τ.held g).0 x).1.1))),
              (λ o. (τ.held g).1 (o.0, (i.owned g o.0, o.1.1))),
            );
            pending = λ u r o c. ⊎_elim
                (λ e. ap (λ z. effect z c) (pending_of_none L.same u r s.pending (λ b x q. fresh (subst (λ v. In v (begins h)) (q ∙ e) (τ.owners b x))))
                ∙ sym (ap (λ z. change L z r c) (i.unbegun u (λ b. fresh (subst (λ v. In v (begins h)) e b)))))
                (λ b. τ.pending u r (b, o.1) c)
                o.0;
            begun = λ u b. ⊎_elim (λ e. omega arith) (λ y. let k = τ.begun u y in omega arith) b;
            granted = τ.granted;
            answered = τ.answered;
            owners = λ c x. inr (τ.owners c x);
            ended = λ u z. inr (τ.ended u z);
            once = τ.once;
          }

      tied_reserved : (t : ℕ) (w : Right) (p : Pattern) (n : ℕ) → May L s (reserved t w p n) → Ties (reserved t w p n ∷ h) (machine.next L s (reserved t w p n))
      tied_reserved t w p n may =
          let this : Grant Pattern = record { owner = t; right = w; pattern = p; number = n } in
          let above = may.1 in
          record {
            opens = τ.opens;
            held = λ g. (
              (λ x. ⊎_elim (λ y. (inr ((τ.held g).0 y).0, ((τ.held g).0 y).1))
                  (λ e. (inl e, subst (λ v. Open v h) (sym (ap (λ z. z.owner) e)) ((τ.opens t).0 may.0)))
                  (in_push s.held this g x)),
              (λ o. ⊎_elim (λ e. push_new s.held this g e) (λ y. push_old s.held this g ((τ.held g).1 (y, o.1))) o.0),
            );
            pending = τ.pending;
            begun = τ.begun;
            granted = λ g x. ⊎_elim (λ e. let k : g.number ≡ n = ap (λ z. z.number) e in omega arith) (λ y. let k = τ.granted g y in omega arith) x;
            answered = τ.answered;
            owners = τ.owners;
            ended = τ.ended;
            once = τ.once;
          }

      tied_committed : (t n : ℕ) (m : Map Row) → In t s.opens → s.last_commit ≤ n → Ties (committed t n ∷ h) (gone L t n m s)
      tied_committed t n m was above = record {
        opens = λ u. (
          (λ x. let y = in_leave (λ u. u) t s.opens u x in (((τ.opens u).0 y.0).0, ⊎_elim y.1 ((τ.opens u).0 y.0).1)),
          (λ o. stays (λ u. u) t s.opens u ((τ.opens u).1 (o.0, λ z. o.1 (inr z))) (λ e. o.1 (inl e))),
        );
        held = λ g. (
          (λ x. let y = in_leave (λ g. g.owner) t s.held g x in let z = (τ.held g).0 y.0 in (z.0, (z.1.0, ⊎_elim y.1 z.1.1))),
          (λ o. stays (λ g. g.owner) t s.held g ((τ.held g).1 (o.0, (o.1.0, λ z. o.1.1 (inr z)))) (λ e. o.1.1 (inl e))),
        );
        pending = λ u r o c.
            ap (λ z. effect z c) (pending_of_leave L.same t u r s.pending (λ e. o.1 (inl e))) ∙ τ.pending u r (o.0, λ z. o.1 (inr z)) c;
        begun = τ.begun;
        granted = τ.granted;
        answered = λ k. ⊎_elim (λ e. omega arith) (λ y. let z = τ.answered k y in omega arith);
        owners = λ c x. τ.owners c (in_leave (λ c. c.owner) t s.pending c x).0;
        ended = λ u. ⊎_elim (λ e. subst (λ v. In v (begins h)) (sym e) ((τ.opens t).0 was).0) (τ.ended u);
        once = keys_kept _ s.pending τ.once;
      }

      -- the rolls after a deed of t's that leaves these changes
      tied_did : (t : ℕ) (d : Deed Row ℕ) (roll : List (Pending Row)) → Open t h
          → ((r : Row) (c : Option ℕ) → effect (pending_for L.same t r roll) c ≡ change L (fed (grants h) d ∷ script t h) r c)
          → ((u : ℕ) (r : Row) → ¬ (u ≡ t) → pending_for L.same u r roll ≡ pending_for L.same u r s.pending)
          → ((c : Pending Row) → In c roll → In c s.pending ⊎ (c.owner ≡ t))
          → KeysOnce roll
          → Ties (did t d ∷ h) (holding L s.opens s.held roll s.last_transaction s.last_reservation s.last_commit s.store)
      tied_did t d roll open_t own_rows others entries keys = record {
        opens = τ.opens;
        held = τ.held;
        pending = λ u r o c. by_cases (ℕ_discrete u t)
            (λ e. subst (λ v. effect (pending_for L.same v r roll) c ≡ change L (script v (did t d ∷ h)) r c) (sym e)
            (own_rows r c ∙ sym (ap (λ z. change L z r c) (if_pos (ℕ_discrete t t) refl _ _))))
            (λ ne. ap (λ z. effect z c) (others u r ne) ∙ τ.pending u r o c ∙ sym (ap (λ z. change L z r c) (if_neg (ℕ_discrete u t) ne _ _)));
        begun = τ.begun;
        granted = τ.granted;
        answered = τ.answered;
        owners = λ c x. ⊎_elim (τ.owners c) (λ e. subst (λ v. In v (begins h)) (sym e) open_t.0) (entries c x);
        ended = τ.ended;
        once = keys;
      }

      -- a change of t's for the row q
      enters : (t : ℕ) (q : Row) (a : Change) → Open t h → (r : Row) (c : Option ℕ)
          → effect (pending_for L.same t r (enter L.same t q a s.pending)) c ≡ ite (L.same r q) (becomes a (change L (script t h) r c)) (change L (script t h) r c)
      enters t q a o r c = by_cases (L.same r q)
          (λ e. ap (λ z. effect z c) (subst (λ x. pending_for L.same t x (enter L.same t q a s.pending) ≡ Some a) (sym e) (enter_same L.same t q a s.pending))
          ∙ becomes_any a c (change L (script t h) r c) ∙ sym (if_pos (L.same r q) e _ _))
          (λ ne. ap (λ z. effect z c) (enter_other L.same t q a t r s.pending (λ z. ne (sym z.1))) ∙ τ.pending t r o c ∙ sym (if_neg (L.same r q) ne _ _))

      tied : (e : Event Row Pattern) → May L s e → Ties (e ∷ h) (machine.next L s e)
      tied (refused c n) may = record
          { opens = τ.opens; held = τ.held; pending = τ.pending; begun = τ.begun; granted = τ.granted; answered = τ.answered; owners = τ.owners; ended = τ.ended; once = τ.once }
      tied (began planner t) may = tied_began planner t may
      tied (reserved t w p n) may = tied_reserved t w p n may
      tied (did t (looked r v)) may =
          let o = (τ.opens t).0 may.0 in tied_did t (looked r v) s.pending o (λ q. τ.pending t q o) (λ u q ne. refl) (λ c. inl) τ.once
      tied (did t (surveyed n number total)) may =
          let o = (τ.opens t).0 may.0 in tied_did t (surveyed n number total) s.pending o (λ q. τ.pending t q o) (λ u q ne. refl) (λ c. inl) τ.once
      tied (did t (changed r a)) may =
          let o = (τ.opens t).0 may.0 in
          tied_did t (changed r a) (enter L.same t r a s.pending) o (enters t r a o)
          (λ u q ne. enter_other L.same t r a u q s.pending (λ e. ne (sym e.0)))
          (λ c y. ⊎_elim inl (λ z. inr z.0) (in_enter L.same t r a s.pending c y)) (keys_enter L.same t r a s.pending τ.once)
      tied (committed t n) may = tied_committed t n (seen L s t) may.0 (let e = may.1 in omega arith)
      tied (abandoned t n) may =
          let x = tied_committed t s.last_commit s.store may (omega arith) in
          record { opens = x.opens; held = x.held; pending = x.pending; begun = x.begun; granted = x.granted; answered = τ.answered; owners = x.owners; ended = x.ended; once = x.once }

  -- what a loop over the calls keeps
  pub record Kept (first : Map Row) (h : History Row Pattern) (s : State Row Pattern) : Type 0 where
    pub run : Run L first h s.store
    pub ties : Ties h s

  pub start : (first : Map Row) (s : State Row Pattern) → New L first s → Kept first [] s
  start first s n = record {
    run = subst (λ m. Run L first [] m) (sym (fun_ext n.store)) new;
    ties = record {
      opens = λ t. ((λ x. absurd (subst (λ l. In t l) n.opens x)), λ o. absurd o.0);
      held = λ g. ((λ x. absurd (subst (λ l. In g l) n.held x)), λ o. absurd o.0);
      pending = λ t r o c. absurd o.0;
      begun = λ t b. absurd b;
      granted = λ g x. absurd x;
      answered = λ n x. absurd x;
      owners = λ c x. absurd (subst (λ l. In c l) n.pending x);
      ended = λ t z. z;
      once = subst (λ l. KeysOnce l) (sym n.pending) tt;
    };
  }

  pub step : (first : Map Row) (h : History Row Pattern) (s : State Row Pattern) (e : Event Row Pattern) (s' : State Row Pattern)
      → Kept first h s → Moves L s e s' → Kept first (e ∷ h) s'
  step first h s e s' k l = record {
    run = next e s'.store k.run (legal h s k.ties e s' l);
    ties = carry (e ∷ h) s' (machine.next L s e) l.1 (tied h s k.ties first (invariant L first k.run) e l.0);
  }

  pub serial_of : (first : Map Row) (h : History Row Pattern) (s : State Row Pattern) → Kept first h s → Serial L first h s.store
  serial_of first h s k = serial L first h s.store k.run

  comes : (first : Map Row) {h : History Row Pattern} {s : State Row Pattern} → Comes L first h s → Kept first h s
  comes first (anew s n) = start first s n
  comes first (on {h} {s} e s' c l) = step first h s e s' (comes first c) l

  pub machine_runs : (first : Map Row) (h : History Row Pattern) (s : State Row Pattern) → Comes L first h s → Run L first h s.store
  machine_runs first h s c = (comes first c).run
