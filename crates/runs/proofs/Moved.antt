-- What each call's contract says is a step of the machine of the serial order.
use Rattle.std.proofs.Common.{◌≡◌, ℕ, true, false, not, eqb, ◌⊎◌, List, [], ◌∷◌, ◌++◌, map, Option, sym, refl, ap, ◌∙◌, subst, inl, inr}
use Rattle.std.proofs.lemmas.List.{map-append}
use Rattle.maps.specs.Maps.{Map, Same, In}
use Rattle.maps.proofs.Lists.{in_map, map_in, map_kept}
use Rattle.kinds.specs.Meaning.{Meaning}
use Rattle.terms.specs.declared.cell.Cell.{Cell}
use Rattle.terms.specs.Fitting.{Description}
use Rattle.rolls.specs.Rolls.{Has}
use Rattle.serial.specs.Language.{Language}
use Rattle.serial.specs.History as words
use Rattle.serial.specs.History.{Event, asked}
use Rattle.serial.specs.History.{Event.refused, Event.began, Event.reserved, Event.did, Event.committed, Event.abandoned}
use Rattle.serial.specs.History.{Deed, Deed.looked, Deed.surveyed, Deed.changed}
use Rattle.serial.specs.Rights.{Change, Change.written, Change.struck}
use Rattle.serial.specs.Machine.{Alike, Does, Moves, gone, seen}
use Rattle.manager.specs.declared.fault.ManagerFault.{ManagerFault}
use Rattle.manager.specs.Faults.{manager_refusal}
use Rattle.manager.specs.declared.fault.ManagerFault.TheVariants.{Pattern, Store, Planner, TransactionsFull, NumbersSpent, NotOpen, Right, ReservationsFull, NoneFits, NotOwn, Count, NoneWrites, ChangesFull, Conflict}
use Rattle.ledger.specs.Words.{language, grant_of, pending_of, right_of}
use Rattle.manager.specs.Book.{Book, state_of}
use Rattle.manager.specs.Ending.{Begun, Abandoned, Committed, ended, own_map}
use Rattle.manager.specs.Reserving.{Clear, Reserved, by_conflict, tallied}
use Rattle.ledger.specs.Covering.{Covered}
use Rattle.manager.specs.Looking.{Changed}
use Rattle.manager.specs.Surveying.{Surveyed}
use Rattle.runs.specs.Calls.{Reply, refused_with, number, count, figures, done, told}

-- an event with this call and this answer takes the machine from the one state to the other
pub record Steps (L : Language (List Cell) Description) (b b' : Book) (m m' : Map (List Cell)) (c : words.Call (List Cell) Description) (r : Reply) : Type 0 where
  pub event : Event (List Cell) Description
  pub call : asked event ≡ c
  pub reply : told event ≡ r
  pub moves : Moves L (state_of b m) event (state_of b' m')

module _ (L : Language (List Cell) Description) (b b' : Book) where
  alike : (m m' : Map (List Cell)) → b' ≡ b → Same m' m → Alike L (state_of b' m') (state_of b m)
  alike m m' e s = record {
    opens = ap (λ x. map (λ t. t.number) x.transactions) e;
    held = ap (λ x. map grant_of x.reservations) e;
    pending = ap (λ x. map pending_of x.changes) e;
    last_transaction = ap (λ x. x.last_transaction) e;
    last_reservation = ap (λ x. x.last_reservation) e;
    last_commit = ap (λ x. x.last_commit) e;
    store = s;
  }

  -- a refusal leaves all as it was
  pub refused_steps : (m m' : Map (List Cell)) (c : words.Call (List Cell) Description) (f : ManagerFault) → b' ≡ b → Same m' m
      → Steps L b b' m m' c (refused_with (manager_refusal f).number)
  refused_steps m m' c f e s = record { event = refused c (manager_refusal f).number; call = refl; reply = refl; moves = (tt, alike m m' e s) }

  pub begin_steps : (m : Map (List Cell)) (planner n : ℕ) → Begun planner b b' n → Steps L b b' m m (words.Call.begin planner) (number n)
  begin_steps m planner n e = record {
    event = began planner n;
    call = refl;
    reply = refl;
    moves = (
      e.next,
      record {
        opens = ap (λ x. map (λ t. t.number) x.transactions) e.book ∙ map-append (λ t. t.number) b.transactions (record { number = n; planner = planner } ∷ []);
        held = ap (λ x. map grant_of x.reservations) e.book;
        pending = ap (λ x. map pending_of x.changes) e.book;
        last_transaction = ap (λ x. x.last_transaction) e.book;
        last_reservation = ap (λ x. x.last_reservation) e.book;
        last_commit = ap (λ x. x.last_commit) e.book;
        store = λ r. refl;
      },
    );
  }

  -- all entries of t have left
  left : (t k : ℕ) (m m' n : Map (List Cell)) → b' ≡ ended t k b → Same m' n → Alike L (state_of b' m') (gone L t k n (state_of b m))
  left t k m m' n e s = record {
    opens = ap (λ x. map (λ t. t.number) x.transactions) e ∙ map_kept (λ x. x.number) (λ u. not (eqb u t)) b.transactions;
    held = ap (λ x. map grant_of x.reservations) e ∙ map_kept grant_of (λ g. not (eqb g.owner t)) b.reservations;
    pending = ap (λ x. map pending_of x.changes) e ∙ map_kept pending_of (λ c. not (eqb c.owner t)) b.changes;
    last_transaction = ap (λ x. x.last_transaction) e;
    last_reservation = ap (λ x. x.last_reservation) e;
    last_commit = ap (λ x. x.last_commit) e;
    store = s;
  }

  opened : (t : ℕ) → Has (λ e. e.number) t b.transactions → In t (map (λ e. e.number) b.transactions)
  opened t o = subst (λ n. In n (map (λ e. e.number) b.transactions)) o.2 (map_in (λ e. e.number) b.transactions o.0 o.1)

  pub abandon_steps : (m : Map (List Cell)) (t n : ℕ) → Has (λ e. e.number) t b.transactions → Abandoned t b b' n → Steps L b b' m m (words.Call.abandon t) (number n)
  abandon_steps m t n o e =
      record { event = abandoned t n; call = refl; reply = refl; moves = (opened t o, left t b.last_commit m m m e.book (λ r. refl)) }

  -- a conflict changes nothing but the tally
  pub conflict_steps : (m : Map (List Cell)) (c : words.Call (List Cell) Description) (f : ManagerFault) → b' ≡ tallied b → Steps L b b' m m c (refused_with (manager_refusal f).number)
  conflict_steps m c f e = record {
    event = refused c (manager_refusal f).number;
    call = refl;
    reply = refl;
    moves = (
      tt,
      record {
        opens = ap (λ x. map (λ t. t.number) x.transactions) e;
        held = ap (λ x. map grant_of x.reservations) e;
        pending = ap (λ x. map pending_of x.changes) e;
        last_transaction = ap (λ x. x.last_transaction) e;
        last_reservation = ap (λ x. x.last_reservation) e;
        last_commit = ap (λ x. x.last_commit) e;
        store = λ r. refl;
      },
    );
  }

pub by_cases : (C : ℕ → ℕ → Type 0) (P : Type 0) (f : ManagerFault) → by_conflict C P f → ((t : ℕ) × ((n : ℕ) × C t n)) ⊎ P
by_cases C P (Conflict t n) x = inl (t, (n, x))
by_cases C P (Pattern f) x = inr x
by_cases C P (Store f) x = inr x
by_cases C P Planner x = inr x
by_cases C P TransactionsFull x = inr x
by_cases C P NumbersSpent x = inr x
by_cases C P NotOpen x = inr x
by_cases C P Right x = inr x
by_cases C P ReservationsFull x = inr x
by_cases C P NoneFits x = inr x
by_cases C P NotOwn x = inr x
by_cases C P Count x = inr x
by_cases C P NoneWrites x = inr x
by_cases C P ChangesFull x = inr x

module _ (sig : List ℕ) (M : Meaning) (b b' : Book) (t : ℕ) where
  pub commit_steps : (m m' : Map (List Cell)) (n : ℕ) → Has (λ e. e.number) t b.transactions → Committed t b b' m m' n → Steps (language sig M) b b' m m' (words.Call.commit t) (number n)
  commit_steps m m' n o e = record {
    event = committed t n;
    call = refl;
    reply = refl;
    moves = ((opened (language sig M) b b' t o, e.next), left (language sig M) b b' t n m m' (seen (language sig M) (state_of b m) t) e.book e.store);
  }

module _ (sig : List ℕ) (M : Meaning) (b b' : Book) (t letter : ℕ) (p : Description) where
  pub reserve_steps : (m : Map (List Cell)) (n : ℕ) → Has (λ e. e.number) t b.transactions → Clear sig M t letter p b.reservations → Reserved t letter p b b' n
      → Steps (language sig M) b b' m m (words.Call.reserve t letter p) (number n)
  reserve_steps m n o free e =
      let w = right_of e.entry.right in
      record {
        event = reserved t w p n;
        call = ap (λ l. words.Call.reserve t l p) (sym e.right);
        reply = refl;
        moves = (
          (
            opened (language sig M) b b' t o,
            e.next,
            (λ g i c. let x = in_map grant_of b.reservations g i in
                free w e.right x.0 x.1 (subst (λ h. Rattle.serial.specs.Serial.Collide (language sig M) h (record { owner = t; right = w; pattern = p; number = n })) x.2 c)),
          ),
          record {
            opens = ap (λ x. map (λ t. t.number) x.transactions) e.book;
            held = ap (λ x. map grant_of x.reservations) e.book ∙ map-append grant_of b.reservations (e.entry ∷ []) ∙ ap (λ g. map grant_of b.reservations ++ (g ∷ [])) entry_is;
            pending = ap (λ x. map pending_of x.changes) e.book;
            last_transaction = ap (λ x. x.last_transaction) e.book;
            last_reservation = ap (λ x. x.last_reservation) e.book;
            last_commit = ap (λ x. x.last_commit) e.book;
            store = λ r. refl;
          },
        );
      }
    where
      entry_is : grant_of e.entry ≡ record { owner = t; right = right_of e.entry.right; pattern = p; number = n }
      entry_is = ap (λ u. record { owner = u; right = right_of e.entry.right; pattern = Rattle.terms.specs.Fitting.described e.entry.pattern; number = e.entry.number }) e.owner
          ∙ ap (λ u. record { owner = t; right = right_of e.entry.right; pattern = u; number = e.entry.number }) e.pattern
          ∙ ap (λ u. record { owner = t; right = right_of e.entry.right; pattern = p; number = u }) e.numbered

module _ (sig : List ℕ) (M : Meaning) (b b' : Book) (t : ℕ) (open_t : Has (λ e. e.number) t b.transactions) (m : Map (List Cell)) where
  pub look_steps : (row : List Cell) (v : Option ℕ) → Covered sig M t row false b.reservations → v ≡ own_map t b m row
      → Steps (language sig M) b b m m (words.Call.look t row) (count v)
  look_steps row v c e = record {
    event = did t (looked row v);
    call = refl;
    reply = refl;
    moves = (
      (
        opened (language sig M) b b t open_t,
        ((grant_of c.0, (map_in grant_of b.reservations c.0 c.1, c.2.mine), c.2.fits), e),
      ),
      alike (language sig M) b b m m refl (λ r. refl),
    );
  }

  pub survey_steps : (n rows total : ℕ) → Surveyed sig M b m t n (rows, total) → Steps (language sig M) b b m m (words.Call.survey t n) (figures rows total)
  survey_steps n rows total s = record {
    event = did t (surveyed n rows total);
    call = refl;
    reply = refl;
    moves = (
      (
        opened (language sig M) b b t open_t,
        (grant_of s.0, (map_in grant_of b.reservations s.0 s.1, s.2.0), s.2.1, s.3),
      ),
      alike (language sig M) b b m m refl (λ r. refl),
    );
  }

  module _ (row : List Cell) (a : Change) (c : Covered sig M t row true b.reservations) (e : Changed t row a b b') where
    may : Does (language sig M) (state_of b m) t (changed row a)
    may = (grant_of c.0, (map_in grant_of b.reservations c.0 c.1, c.2.mine), c.2.writes refl, c.2.fits)

    entered : Alike (language sig M) (state_of b' m) (Rattle.serial.specs.Machine.next (language sig M) (state_of b m) (did t (changed row a)))
    entered = record {
      opens = ap (λ x. map (λ t. t.number) x.transactions) e.book;
      held = ap (λ x. map grant_of x.reservations) e.book;
      pending = ap (λ x. map pending_of x.changes) e.book ∙ e.changes;
      last_transaction = ap (λ x. x.last_transaction) e.book;
      last_reservation = ap (λ x. x.last_reservation) e.book;
      last_commit = ap (λ x. x.last_commit) e.book;
      store = λ r. refl;
    }

  pub write_steps : (row : List Cell) (k : ℕ) → Covered sig M t row true b.reservations → Changed t row (written k) b b'
      → Steps (language sig M) b b' m m (words.Call.write t row k) done
  write_steps row k c e =
      record { event = did t (changed row (written k)); call = refl; reply = refl; moves = ((opened (language sig M) b b' t open_t, may row (written k) c e), entered row (written k) c e) }

  pub strike_steps : (row : List Cell) → Covered sig M t row true b.reservations → Changed t row struck b b'
      → Steps (language sig M) b b' m m (words.Call.strike t row) done
  strike_steps row c e =
      record { event = did t (changed row struck); call = refl; reply = refl; moves = ((opened (language sig M) b b' t open_t, may row struck c e), entered row struck c e) }
