-- The manager by its rolls, in order of arrival: when it grants a call with an answer, and what it then holds.
use Rattle.std.specs.Prelude.{◌≡◌, ℕ, suc, not, List, [], ◌∷◌, ◌++◌, Some, None, filter, Option, ◌==◌}
use Rattle.std.proofs.Math.Logic.{ite}
use Rattle.std.proofs.Math.Logic.Dec
use Rattle.std.proofs.Math.Decide.{ℕ_discrete}
use Rattle.maps.specs.Maps.{Map, Same, In, Figures}
use Rattle.serial.specs.Language.{Language}
use Rattle.serial.specs.Rights.{Change, Allows, becomes}
use Rattle.serial.specs.History.{Event, History, Grant, Deed}
use Rattle.serial.specs.History.{Event.refused, Event.began, Event.reserved, Event.did, Event.committed, Event.abandoned}
use Rattle.serial.specs.History.{Deed.looked, Deed.surveyed, Deed.changed}
use Rattle.serial.specs.Serial.{Collide}
use Rattle.serial.specs.Legal.{Run}

-- a change that waits for its transaction's commit
pub record Pending (Row : Type 0) : Type 0 where
  pub owner : ℕ
  pub row : Row
  pub change : Change

-- the open transactions, the reservations and the changes in order of arrival, the last numbers given, and the store's map
pub record State (Row Pattern : Type 0) : Type 0 where
  pub opens : List ℕ
  pub held : List (Grant Pattern)
  pub pending : List (Pending Row)
  pub last_transaction : ℕ
  pub last_reservation : ℕ
  pub last_commit : ℕ
  pub store : Map Row

-- no transaction has two changes for one row
abbrev pub KeysOnce : {Row : Type 0} → List (Pending Row) → Type 0
KeysOnce [] = Unit {0}
KeysOnce {Row} (c ∷ cs) = ((b : Pending Row) → In b cs → ¬ ((b.owner ≡ c.owner) × (b.row ≡ c.row))) × KeysOnce cs

-- the entries of other owners than t
abbrev pub leave : {A : Type 0} → (A → ℕ) → ℕ → List A → List A
leave owner t = filter (λ a. not (owner a == t))

-- what a change, if there is one, makes of a row's count
abbrev pub effect : Option Change → Option ℕ → Option ℕ
effect (Some a) c = becomes a c
effect None c = c

module _ {Row : Type 0} (same : (r s : Row) → Dec (r ≡ s)) where
  -- whether the change is t's for the row
  abbrev pub is_for : (t : ℕ) (r : Row) (c : Pending Row) → Dec ((c.owner ≡ t) × (c.row ≡ r))
  is_for t r c = Dec.and (ℕ_discrete c.owner t) (same c.row r)

  -- the change of t's for the row
  abbrev pub pending_for : ℕ → Row → List (Pending Row) → Option Change
  pending_for t r [] = None
  pending_for t r (c ∷ cs) = ite (is_for t r c) (Some c.change) (pending_for t r cs)

  -- the change of t's for the row becomes a: in its place, or at the end if there was none
  abbrev pub enter : ℕ → Row → Change → List (Pending Row) → List (Pending Row)
  enter t r a [] = record { owner = t; row = r; change = a } ∷ []
  enter t r a (c ∷ cs) = ite (is_for t r c) (record { owner = t; row = r; change = a } ∷ cs) (c ∷ enter t r a cs)

  -- the map as t sees it, with its own changes
  abbrev pub with_own : ℕ → List (Pending Row) → Map Row → Map Row
  with_own t cs m r = effect (pending_for t r cs) (m r)

module _ {Row Pattern : Type 0} (L : Language Row Pattern) where
  -- what t sees
  abbrev pub seen : State Row Pattern → ℕ → Map Row
  seen s t = with_own L.same t s.pending s.store

  -- a reservation of t's
  abbrev pub Mine : State Row Pattern → ℕ → Grant Pattern → Type 0
  Mine s t g = In g s.held × (g.owner ≡ t)

  -- t may do this, with this answer
  abbrev pub Does : State Row Pattern → ℕ → Deed Row ℕ → Type 0
  Does s t (looked r v) = ((g : Grant Pattern) × Mine s t g × L.fits r g.pattern) × (v ≡ seen s t r)
  Does s t (surveyed n number total) =
      (g : Grant Pattern) × Mine s t g × (g.number ≡ n) × Figures (λ r. L.fits r g.pattern) (seen s t) number total
  Does s t (changed r a) = (g : Grant Pattern) × Mine s t g × Allows g.right a × L.fits r g.pattern

  -- the call may have this answer: a number that is given is the next one
  abbrev pub May : State Row Pattern → Event Row Pattern → Type 0
  May s (refused c n) = Unit {0}
  May s (began planner t) = t ≡ suc s.last_transaction
  May s (reserved t w p n) =
      In t s.opens × (n ≡ suc s.last_reservation)
      × ((g : Grant Pattern) → In g s.held → ¬ Collide L g (record { owner = t; right = w; pattern = p; number = n }))
  May s (did t d) = In t s.opens × Does s t d
  May s (committed t n) = In t s.opens × (n ≡ suc s.last_commit)
  May s (abandoned t n) = In t s.opens

  -- the state that holds these
  abbrev pub holding : List ℕ → List (Grant Pattern) → List (Pending Row) → ℕ → ℕ → ℕ → Map Row → State Row Pattern
  holding os hs cs t n k m = record { opens = os; held = hs; pending = cs; last_transaction = t; last_reservation = n; last_commit = k; store = m }

  -- all entries of t have left, the last commit has this number, and the store this map
  abbrev pub gone : ℕ → ℕ → Map Row → State Row Pattern → State Row Pattern
  gone t k m s =
      holding (leave (λ u. u) t s.opens) (leave (λ g. g.owner) t s.held) (leave (λ c. c.owner) t s.pending)
      s.last_transaction s.last_reservation k m

  -- the state after the call with this answer
  abbrev pub next : State Row Pattern → Event Row Pattern → State Row Pattern
  next s (refused c n) = s
  next s (began planner t) = holding (s.opens ++ (t ∷ [])) s.held s.pending t s.last_reservation s.last_commit s.store
  next s (reserved t w p n) =
      let this : Grant Pattern = record { owner = t; right = w; pattern = p; number = n } in
      holding s.opens (s.held ++ (this ∷ [])) s.pending s.last_transaction n s.last_commit s.store
  next s (did t (looked r v)) = s
  next s (did t (surveyed n number total)) = s
  next s (did t (changed r a)) = holding s.opens s.held (enter L.same t r a s.pending) s.last_transaction s.last_reservation s.last_commit s.store
  next s (committed t n) = gone t n (seen s t) s
  next s (abandoned t n) = gone t s.last_commit s.store s

  -- the two states hold the same
  pub record Alike (s u : State Row Pattern) : Type 0 where
    pub opens : s.opens ≡ u.opens
    pub held : s.held ≡ u.held
    pub pending : s.pending ≡ u.pending
    pub last_transaction : s.last_transaction ≡ u.last_transaction
    pub last_reservation : s.last_reservation ≡ u.last_reservation
    pub last_commit : s.last_commit ≡ u.last_commit
    pub store : Same s.store u.store

  -- a call with its answer takes the manager from s to s'
  abbrev pub Moves : State Row Pattern → Event Row Pattern → State Row Pattern → Type 0
  Moves s e s' = May s e × Alike s' (next s e)

  -- a new manager over the map: its rolls are empty (where its numbers begin is of no account)
  pub record New (first : Map Row) (s : State Row Pattern) : Type 0 where
    pub opens : s.opens ≡ []
    pub held : s.held ≡ []
    pub pending : s.pending ≡ []
    pub store : Same s.store first

  -- these calls with their answers take a new manager over the first map to the state s
  pub data Comes (first : Map Row) : History Row Pattern → State Row Pattern → Type 0 where
    anew : (s : State Row Pattern) → New first s → Comes first [] s
    on : {h : History Row Pattern} {s : State Row Pattern} (e : Event Row Pattern) (s' : State Row Pattern) → Comes first h s → Moves s e s' → Comes first (e ∷ h) s'

  -- whatever the manager does is a run of legal calls
  abbrev pub MachineRuns : Type 0
  MachineRuns = (first : Map Row) (h : History Row Pattern) (s : State Row Pattern) → Comes first h s → Run L first h s.store
