-- Past the check of the sizes, a call's contract is its part of a run.
use Rattle.std.proofs.Common.{◌≡◌, ℕ, List, ◌∷◌, Ok, Err, MatchResult, Result, sym, subst, ⊎_elim}
use Rattle.kinds.specs.Meaning.{Meaning}
use Rattle.maps.specs.Maps.{Map}
use Rattle.terms.specs.declared.cell.Cell.{Cell}
use Rattle.compare.specs.declared.sample.Sample.{Sample}
use Rattle.runs.specs.declared.call.Call.{Call}
use Rattle.runs.specs.declared.call.Answer.{Answer}
use Rattle.runs.specs.declared.call.Answer.TheVariants.{Refused}
use Rattle.manager.specs.declared.fault.ManagerFault.{ManagerFault}
use Rattle.manager.specs.declared.fault.ManagerFault.TheVariants.{Pattern, Store, Planner, TransactionsFull, NumbersSpent, NotOpen, Right, ReservationsFull, NoneFits, NotOwn, Count, NoneWrites, ChangesFull, Conflict}
use Rattle.manager.specs.declared.memory.Memory.{Memory}
use Rattle.manager.specs.Book.{Book, Sizes}
use Rattle.manager.specs.Checks.{Check, Answers}
use Rattle.manager.specs.Ending.{sizes}
use Rattle.manager.specs.Reserving.{by_conflict}
use Rattle.runs.specs.Runs.{Answered, Replies, answer_of}

pub replies : {A : Type 0} (say : A → Answer) (cs : List Check) (G G' : A → Type 0) (S S' : ManagerFault → Type 0) (x : Memory) (r : Result A ManagerFault) (a : Answer)
    → Sizes x → a ≡ answer_of say r → ((v : A) → G v → G' v) → ((f : ManagerFault) → S f → S' f) → Answers (sizes x ∷ cs) G S r → Replies say cs G' S' a
replies say cs G G' S S' x (Ok v) a z e g s p = (Ok v, e, (p.0.1, g v p.1))
replies say cs G G' S S' x (Err f) a z e g s p = (Err f, e, (⊎_elim (λ q. absurd (q.1 z)) (λ q. q.1) p.0, s f p.1))

-- what is told of a call's result
pub told_is : {A : Type 0} (say : A → Answer) (Post : A → Type 0) (r : Result A ManagerFault) (a : Answer) → ((v : A) → Post v → a ≡ say v)
    → MatchResult r Post (λ f. a ≡ Refused f) → a ≡ answer_of say r
told_is say Post (Ok v) a h m = h v m
told_is say Post (Err f) a h m = m

-- what holds of a conflict, and of any other fault, may be said more fully
pub by_conflict_map : (C C' : ℕ → ℕ → Type 0) (P P' : Type 0) → ((t n : ℕ) → C t n → C' t n) → (P → P') → (f : ManagerFault) → by_conflict C P f → by_conflict C' P' f
by_conflict_map C C' P P' c p (Conflict t n) x = c t n x
by_conflict_map C C' P P' c p (Pattern f) x = p x
by_conflict_map C C' P P' c p (Store f) x = p x
by_conflict_map C C' P P' c p Planner x = p x
by_conflict_map C C' P P' c p TransactionsFull x = p x
by_conflict_map C C' P P' c p NumbersSpent x = p x
by_conflict_map C C' P P' c p NotOpen x = p x
by_conflict_map C C' P P' c p Right x = p x
by_conflict_map C C' P P' c p ReservationsFull x = p x
by_conflict_map C C' P P' c p NoneFits x = p x
by_conflict_map C C' P P' c p NotOwn x = p x
by_conflict_map C C' P P' c p Count x = p x
by_conflict_map C C' P P' c p NoneWrites x = p x
by_conflict_map C C' P P' c p ChangesFull x = p x

module _ (sig : List ℕ) (M : Meaning) (places : ℕ) (x : Memory) (z : Sizes x) (b b' : Book) (m m' : Map (List Cell)) (s s' : Sample) (c : Call) (a : Answer) where
  -- the answer's case and the call's are known by equations
  at : (d : Call) → c ≡ d → Answered sig M places b b' m m' s s' d a → Answered sig M places b b' m m' s s' c a
  at d e p = subst (λ k. Answered sig M places b b' m m' s s' k a) (sym e) p

  -- a call that changes the book alone
  module _ {A : Type 0} (say : A → Answer) (cs : List Check) (G : A → Type 0) (r : Result A ManagerFault) where
    pub booked : (d : Call) → c ≡ d → m' ≡ m → s' ≡ s → a ≡ answer_of say r → Answers (sizes x ∷ cs) G (λ _. b' ≡ b) r
        → (Replies say cs (λ v. G v × (m' ≡ m) × (s' ≡ s)) (λ _. (b' ≡ b) × (m' ≡ m) × (s' ≡ s)) a → Answered sig M places b b' m m' s s' d a) → Answered sig M places b b' m m' s s' c a
    booked d e em es ea p k = at d e (k (replies say cs G _ (λ _. b' ≡ b) _ x r a z ea (λ v h. (h, em, es)) (λ f h. (h, em, es)) p))

    -- a call that changes nothing
    pub asked_only : (d : Call) → c ≡ d → b' ≡ b → m' ≡ m → s' ≡ s → a ≡ answer_of say r → Answers (sizes x ∷ cs) G (λ _. Unit {0}) r
        → (Replies say cs (λ v. G v × ((b' ≡ b) × (m' ≡ m) × (s' ≡ s))) (λ _. (b' ≡ b) × (m' ≡ m) × (s' ≡ s)) a → Answered sig M places b b' m m' s s' d a) → Answered sig M places b b' m m' s s' c a
    asked_only d e eb em es ea p k = at d e (k (replies say cs G _ (λ _. Unit {0}) _ x r a z ea (λ v h. (h, (eb, em, es))) (λ f h. (eb, em, es)) p))

    -- a commit, which leaves the store itself as it was when it is refused
    pub stored : (T : Type 0) → (T → m' ≡ m) → (d : Call) → c ≡ d → s' ≡ s → a ≡ answer_of say r → Answers (sizes x ∷ cs) G (λ _. (b' ≡ b) × T) r
        → (Replies say cs (λ v. G v × (s' ≡ s)) (λ _. (b' ≡ b) × (m' ≡ m) × (s' ≡ s)) a → Answered sig M places b b' m m' s s' d a) → Answered sig M places b b' m m' s s' c a
    stored T t d e es ea p k = at d e (k (replies say cs G _ (λ _. (b' ≡ b) × T) _ x r a z ea (λ v h. (h, es)) (λ f h. (h.0, t h.1, es)) p))

    -- a reserve
    pub shown : (C : ℕ → ℕ → Type 0) (d : Call) → c ≡ d → m' ≡ m → a ≡ answer_of say r → Answers (sizes x ∷ cs) (λ n. G n × (s' ≡ s)) (by_conflict C ((b' ≡ b) × (s' ≡ s))) r
        → (Replies say cs (λ n. G n × (m' ≡ m) × (s' ≡ s)) (by_conflict (λ u n. C u n × (m' ≡ m)) ((b' ≡ b) × (m' ≡ m) × (s' ≡ s))) a → Answered sig M places b b' m m' s s' d a) → Answered sig M places b b' m m' s s' c a
    shown C d e em ea p k = at d e
        (k (replies say cs (λ n. G n × (s' ≡ s)) _ (by_conflict C ((b' ≡ b) × (s' ≡ s))) _ x r a z ea (λ v h. (h.0, em, h.1))
        (by_conflict_map C (λ u n. C u n × (m' ≡ m)) ((b' ≡ b) × (s' ≡ s)) ((b' ≡ b) × (m' ≡ m) × (s' ≡ s)) (λ t n h. (h, em)) (λ h. (h.0, em, h.1))) p))
