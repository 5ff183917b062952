-- Each exchange is a step of the machine of the serial order; the tally is none, and changes nothing.
use Rattle.std.proofs.Common.{◌≡◌, ℕ, ◌⊎◌, List, [], Some, None, Ok, Err, Option, Result, sym, refl, ap, ◌∙◌, subst, inl, inr, ⊎_elim}
use Rattle.std.specs.Option.{option_map}
use Rattle.kinds.specs.Meaning.{Meaning}
use Rattle.maps.specs.Maps.{Map}
use Rattle.terms.specs.declared.cell.Cell.{Cell}
use Rattle.terms.specs.Fitting.{Description}
use Rattle.compare.specs.declared.sample.Sample.{Sample}
use Rattle.stores.specs.declared.count.Count.{Count}
use Rattle.stores.specs.Means.{count_of}
use Rattle.serial.specs.Rights.{Change.written, Change.struck}
use Rattle.serial.specs.History as words
use Rattle.ledger.specs.Words.{language}
use Rattle.runs.specs.declared.call.Call.{Call}
use Rattle.runs.specs.declared.call.Call.TheVariants.{Begin, Reserve, Look, Survey, Write, Strike, Commit, Abandon, Tally}
use Rattle.runs.specs.declared.call.Answer.{Answer}
use Rattle.runs.specs.declared.call.Answer.TheVariants as answers
use Rattle.manager.specs.declared.fault.ManagerFault.{ManagerFault}
use Rattle.manager.specs.Faults.{manager_refusal}
use Rattle.manager.specs.Book.{Book}
use Rattle.manager.specs.Checks.{Answers}
use Rattle.runs.specs.Calls.{Reply, asked_by, says, refused_with, number, count, figures, done}
use Rattle.manager.specs.Ending.{begin_rules, Begun, commit_rules, Committed, abandon_rules, Abandoned, own_map}
use Rattle.manager.specs.Looking.{look_rules, write_rules, strike_rules, Changed}
use Rattle.manager.specs.Reserving.{reserve_rules, Reserved, Conflicted, by_conflict}
use Rattle.manager.specs.Surveying.{survey_rules, Surveyed}
use Rattle.runs.specs.Runs.{Answered, answer_of}
use Rattle.runs.proofs.Moved.{Steps, refused_steps, conflict_steps, by_cases, begin_steps, reserve_steps, look_steps, survey_steps, write_steps, strike_steps, commit_steps, abandon_steps}

module _ (sig : List ℕ) (M : Meaning) (places : ℕ) (b b' : Book) (m m' : Map (List Cell)) (s s' : Sample) where
  abbrev pub Goes : Option (words.Call (List Cell) Description) → Option Reply → Type 0
  Goes k r = ((k ≡ None) × (r ≡ None) × (b' ≡ b) × (m' ≡ m))
      ⊎ ((c : words.Call (List Cell) Description) × (y : Reply) × (k ≡ Some c) × (r ≡ Some y) × Steps (language sig M) b b' m m' c y)

  abbrev pub Still : Type 0
  Still = (b' ≡ b) × (m' ≡ m) × (s' ≡ s)

  module _ (k : words.Call (List Cell) Description) (a : Answer) where
    granted : (r : Reply) (d : Answer) → a ≡ d → says d ≡ Some r → Steps (language sig M) b b' m m' k r → Goes (Some k) (says a)
    granted r d e f st = inr (k, r, refl, ap says e ∙ f, st)

    -- where the store's map is as it was
    kept : (r : Reply) (d : Answer) → a ≡ d → says d ≡ Some r → m' ≡ m → Steps (language sig M) b b' m m k r → Goes (Some k) (says a)
    kept r d e f em st = granted r d e f (subst (λ n. Steps (language sig M) b b' m n k r) (sym em) st)

    -- where nothing has changed
    same : (r : Reply) (d : Answer) → a ≡ d → says d ≡ Some r → Still → Steps (language sig M) b b m m k r → Goes (Some k) (says a)
    same r d e f h st = kept r d e f h.1 (subst (λ y. Steps (language sig M) b y m m k r) (sym h.0) st)

    refused : (f : ManagerFault) → a ≡ answers.Refused f → Still → Goes (Some k) (says a)
    refused f e h = granted (refused_with (manager_refusal f).number) (answers.Refused f) e refl (refused_steps (language sig M) b b' m m' k f h.0 (λ r. ap (λ n. n r) h.1))

  module _ (a : Answer) where
    begins : (planner : ℕ) (r : Result ℕ ManagerFault) → a ≡ answer_of answers.Number r
        → Answers (begin_rules b planner) (λ n. Begun planner b b' n × (m' ≡ m) × (s' ≡ s)) (λ _. Still) r → Goes (Some (words.Call.begin planner)) (says a)
    begins planner (Ok n) e p = kept (words.Call.begin planner) a (number n) (answers.Number n) e refl p.1.1 (begin_steps (language sig M) b b' m planner n p.1.0)
    begins planner (Err f) e p = refused (words.Call.begin planner) a f e p.1

    reserves : (t letter : ℕ) (p : Description) (r : Result ℕ ManagerFault) → a ≡ answer_of answers.Number r
        → Answers (reserve_rules sig M b t letter p) (λ n. Reserved t letter p b b' n × (m' ≡ m) × (s' ≡ s)) (by_conflict (λ u n. Conflicted sig M p b b' s' u n × (m' ≡ m)) Still) r
        → Goes (Some (words.Call.reserve t letter p)) (says a)
    reserves t letter p (Ok n) e h =
        kept (words.Call.reserve t letter p) a (number n) (answers.Number n) e refl h.1.1 (reserve_steps sig M b b' t letter p m n h.0.0 h.0.1.1.1.1.1.0 h.1.0)
    reserves t letter p (Err f) e h =
        ⊎_elim
        (λ c. kept (words.Call.reserve t letter p) a (refused_with (manager_refusal f).number) (answers.Refused f) e refl c.1.1.1 (conflict_steps (language sig M) b b' m (words.Call.reserve t letter p) f c.1.1.0.book))
        (refused (words.Call.reserve t letter p) a f e)
        (by_cases (λ u n. Conflicted sig M p b b' s' u n × (m' ≡ m)) Still f h.1)

    looks : (t : ℕ) (row : List Cell) (r : Result (Option Count) ManagerFault) → a ≡ answer_of answers.Found r
        → Answers (look_rules sig M b t row) (λ v. (option_map count_of v ≡ own_map t b m row) × Still) (λ _. Still) r → Goes (Some (words.Call.look t row)) (says a)
    looks t row (Ok v) e p =
        same (words.Call.look t row) a (count (option_map count_of v)) (answers.Found v) e refl p.1.1 (look_steps sig M b b t p.0.0 m row (option_map count_of v) p.0.1.1.0 p.1.0)
    looks t row (Err f) e p = refused (words.Call.look t row) a f e p.1

    surveys : (t n : ℕ) (r : Result (ℕ × ℕ) ManagerFault) → a ≡ answer_of (λ f. answers.Figures f.0 f.1) r
        → Answers (survey_rules b t n) (λ f. Surveyed sig M b m t n f × Still) (λ _. Still) r → Goes (Some (words.Call.survey t n)) (says a)
    surveys t n (Ok f) e p =
        same (words.Call.survey t n) a (figures f.0 f.1) (answers.Figures f.0 f.1) e refl p.1.1 (survey_steps sig M b b t p.0.0 m n f.0 f.1 p.1.0)
    surveys t n (Err f) e p = refused (words.Call.survey t n) a f e p.1

    writes : (t : ℕ) (row : List Cell) (k : ℕ) (r : Result (Unit {0}) ManagerFault) → a ≡ answer_of (λ _. answers.Done) r
        → Answers (write_rules sig M b t row k) (λ _. Changed t row (written k) b b' × (m' ≡ m) × (s' ≡ s)) (λ _. Still) r → Goes (Some (words.Call.write t row k)) (says a)
    writes t row k (Ok u) e p = kept (words.Call.write t row k) a done answers.Done e refl p.1.1 (write_steps sig M b b' t p.0.0 m row k p.0.1.1.1.0 p.1.0)
    writes t row k (Err f) e p = refused (words.Call.write t row k) a f e p.1

    strikes : (t : ℕ) (row : List Cell) (r : Result (Unit {0}) ManagerFault) → a ≡ answer_of (λ _. answers.Done) r
        → Answers (strike_rules sig M b t row) (λ _. Changed t row struck b b' × (m' ≡ m) × (s' ≡ s)) (λ _. Still) r → Goes (Some (words.Call.strike t row)) (says a)
    strikes t row (Ok u) e p = kept (words.Call.strike t row) a done answers.Done e refl p.1.1 (strike_steps sig M b b' t p.0.0 m row p.0.1.1.0 p.1.0)
    strikes t row (Err f) e p = refused (words.Call.strike t row) a f e p.1

    commits : (t : ℕ) (r : Result ℕ ManagerFault) → a ≡ answer_of answers.Number r
        → Answers (commit_rules b m places t) (λ n. Committed t b b' m m' n × (s' ≡ s)) (λ _. Still) r → Goes (Some (words.Call.commit t)) (says a)
    commits t (Ok n) e p = granted (words.Call.commit t) a (number n) (answers.Number n) e refl (commit_steps sig M b b' t m m' n p.0.0 p.1.0)
    commits t (Err f) e p = refused (words.Call.commit t) a f e p.1

    abandons : (t : ℕ) (r : Result ℕ ManagerFault) → a ≡ answer_of answers.Number r
        → Answers (abandon_rules b t) (λ n. Abandoned t b b' n × (m' ≡ m) × (s' ≡ s)) (λ _. Still) r → Goes (Some (words.Call.abandon t)) (says a)
    abandons t (Ok n) e p = kept (words.Call.abandon t) a (number n) (answers.Number n) e refl p.1.1 (abandon_steps (language sig M) b b' m t n p.0.0 p.1.0)
    abandons t (Err f) e p = refused (words.Call.abandon t) a f e p.1

    tallies : (r : Result ℕ ManagerFault) → a ≡ answer_of answers.Tally r → Answers [] (λ n. (n ≡ b.tally) × Still) (λ _. Still) r → Goes None (says a)
    tallies (Ok n) e p = inl (refl, ap says e, p.1.1.0, p.1.1.1)
    tallies (Err f) e p = absurd p.0

  pub goes : (c : Call) (a : Answer) → Answered sig M places b b' m m' s s' c a → Goes (asked_by c) (says a)
  goes (Begin planner) a h = begins a planner h.0 h.1 h.2
  goes (Reserve t letter cells constraints) a h = reserves a t letter (record { cells = cells.now; constraints = constraints.now }) h.0 h.1 h.2
  goes (Look t cells) a h = looks a t cells.now h.0 h.1 h.2
  goes (Survey t n) a h = surveys a t n h.0 h.1 h.2
  goes (Write t cells k) a h = writes a t cells.now k h.0 h.1 h.2
  goes (Strike t cells) a h = strikes a t cells.now h.0 h.1 h.2
  goes (Commit t) a h = commits a t h.0 h.1 h.2
  goes (Abandon t) a h = abandons a t h.0 h.1 h.2
  goes Tally a h = tallies a h.0 h.1 h.2
