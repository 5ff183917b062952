-- What a run of calls over a new manager promises: each answer exactly, and the serial order of the whole.
use Rattle.std.specs.Prelude.{◌≡◌, ℕ, min, List, [], ◌∷◌, map, reverse, length, take, drop, Some, None, Ok, Err, Option, Result}
use Rattle.std.specs.Option.{option_map}
use Rattle.kinds.specs.Meaning.{Meaning}
use Rattle.maps.specs.Maps.{Map}
use Rattle.terms.specs.declared.cell.Cell.{Cell}
use Rattle.terms.specs.Fitting.{Description}
use Rattle.compare.specs.declared.sample.Sample.{Sample}
use Rattle.stores.specs.Means.{count_of}
use Rattle.serial.specs.Rights.{Change.written, Change.struck}
use Rattle.serial.specs.History.{History, asked}
use Rattle.serial.specs.Serial.{Serial}
use Rattle.ledger.specs.Words.{language}
use Rattle.runs.specs.declared.call.Call.{Call}
use Rattle.runs.specs.declared.call.Call.TheVariants.{Begin, Reserve, Look, Survey, Write, Strike, Commit, Abandon, Tally}
use Rattle.runs.specs.declared.call.Answer.{Answer}
use Rattle.runs.specs.declared.call.Answer.TheVariants as answers
use Rattle.manager.specs.declared.fault.ManagerFault.{ManagerFault}
use Rattle.manager.specs.declared.memory.Memory.{Memory}
use Rattle.manager.specs.Book.{Book}
use Rattle.manager.specs.Checks.{Check, Answers}
use Rattle.runs.specs.Calls.{asked_by, told, says}
use Rattle.manager.specs.New.{fresh}
use Rattle.manager.specs.New.{new_checks}
use Rattle.manager.specs.Ending.{begin_rules, Begun, commit_rules, Committed, abandon_rules, Abandoned, own_map}
use Rattle.manager.specs.Looking.{look_rules, write_rules, strike_rules, Changed}
use Rattle.manager.specs.Reserving.{reserve_rules, Reserved, Conflicted, by_conflict}
use Rattle.manager.specs.Surveying.{survey_rules, Surveyed}

-- what is answered: the fault, or what is said of a granted call's result
abbrev pub answer_of : {A : Type 0} → (A → Answer) → Result A ManagerFault → Answer
answer_of say (Ok v) = say v
answer_of say (Err f) = answers.Refused f

-- the answer of a call with these checks: granted exactly when every check passes, else the first that fails is named
abbrev pub Replies : {A : Type 0} → (A → Answer) → List Check → (A → Type 0) → (ManagerFault → Type 0) → Answer → Type 0
Replies {A} say cs Granted Still a = (r : Result A ManagerFault) × (a ≡ answer_of say r) × Answers cs Granted Still r

-- A call with its answer, and its row buffer before and after.
pub record Exchange : Type 0 where
  pub call : Call
  pub answer : Answer
  pub before : Sample
  pub after : Sample

module _ (sig : List ℕ) (M : Meaning) (places : ℕ) (b b' : Book) (m m' : Map (List Cell)) (s s' : Sample) where
  -- nothing has changed
  abbrev Still : Type 0
  Still = (b' ≡ b) × (m' ≡ m) × (s' ≡ s)

  -- the reservations, the changes and the numbers have become others; the store and the row buffer are as they were
  abbrev InBook : Type 0 → Type 0
  InBook P = P × (m' ≡ m) × (s' ≡ s)

  -- each call's answer, and what the manager, the store's map and the row buffer then hold
  abbrev pub Answered : Call → Answer → Type 0
  Answered (Begin planner) = Replies answers.Number (begin_rules b planner) (λ n. InBook (Begun planner b b' n)) (λ _. Still)
  Answered (Reserve t letter cells constraints) =
      let p : Description = record { cells = cells.now; constraints = constraints.now } in
      Replies answers.Number (reserve_rules sig M b t letter p) (λ n. InBook (Reserved t letter p b b' n))
      (by_conflict (λ u n. Conflicted sig M p b b' s' u n × (m' ≡ m)) Still)
  Answered (Look t cells) =
      Replies answers.Found (look_rules sig M b t cells.now) (λ v. (option_map count_of v ≡ own_map t b m cells.now) × Still) (λ _. Still)
  Answered (Survey t n) =
      Replies {A = ℕ × ℕ} (λ f. answers.Figures f.0 f.1) (survey_rules b t n) (λ f. Surveyed sig M b m t n f × Still) (λ _. Still)
  Answered (Write t cells k) = Replies {A = Unit {0}} (λ _. answers.Done) (write_rules sig M b t cells.now k) (λ _. InBook (Changed t cells.now (written k) b b')) (λ _. Still)
  Answered (Strike t cells) = Replies {A = Unit {0}} (λ _. answers.Done) (strike_rules sig M b t cells.now) (λ _. InBook (Changed t cells.now struck b b')) (λ _. Still)
  Answered (Commit t) = Replies answers.Number (commit_rules b m places t) (λ n. Committed t b b' m m' n × (s' ≡ s)) (λ _. Still)
  Answered (Abandon t) = Replies answers.Number (abandon_rules b t) (λ n. InBook (Abandoned t b b' n)) (λ _. Still)
  Answered Tally = Replies answers.Tally [] (λ n. (n ≡ b.tally) × Still) (λ _. Still)

module _ (sig : List ℕ) (M : Meaning) (places : ℕ) (first : Map (List Cell)) where
  -- these exchanges, the latest first, take a new manager over the first map to this book and this map
  abbrev pub Followed : List Exchange → Book → Map (List Cell) → Type 0
  Followed [] b m = (b ≡ fresh) × (m ≡ first)
  Followed (e ∷ es) b' m' =
      (b : Book) × (m : Map (List Cell)) × Followed es b m × Answered sig M places b b' m m' e.before e.after e.call e.answer

-- those that are there
abbrev pub present : {A : Type 0} → List (Option A) → List A
present [] = []
present (Some a ∷ l) = a ∷ present l
present (None ∷ l) = present l

-- The calls with their answers and row buffers: each is answered exactly as the specified machine does, from a new manager on. Some history has
-- exactly these calls and these answers, refused ones included and the tally left out, and it is serial from the first map to the last.
pub record Ran (sig : List ℕ) (M : Meaning) (places : ℕ) (cs : List Call) (rs : List Answer) (bs bs' : List Sample) (first last : Map (List Cell)) : Type 0 where
  pub exchanges : List Exchange
  pub calls : map (λ e. e.call) exchanges ≡ reverse cs
  pub answers : map (λ e. e.answer) exchanges ≡ reverse rs
  pub before : map (λ e. e.before) exchanges ≡ reverse bs
  pub after : map (λ e. e.after) exchanges ≡ reverse bs'
  pub book : Book
  pub followed : Followed sig M places first exchanges book last
  pub history : History (List Cell) Description
  pub asked_are : map asked history ≡ present (map (λ e. asked_by e.call) exchanges)
  pub told_are : map told history ≡ present (map (λ e. says e.answer) exchanges)
  pub serial : Serial (language sig M) first history last

-- n calls are made, as many as there are answers and row buffers for; those past them are as they were
pub record RunOf (sig : List ℕ) (M : Meaning) (places : ℕ) (calls : List Call) (answers answers' : List Answer) (buffers buffers' : List Sample) (first last : Map (List Cell)) (n : ℕ) : Type 0 where
  pub made : n ≡ min (min (length calls) (length answers)) (length buffers)
  pub ran : Ran sig M places (take n calls) (take n answers') (take n buffers) (take n buffers') first last
  pub answers_past : drop n answers' ≡ drop n answers
  pub buffers_past : drop n buffers' ≡ drop n buffers

-- a run over a new manager; a refused one leaves all as it was
abbrev pub RunMade : {K : Type 0} → (K → Meaning) → K → List ℕ → ℕ → Memory → List Call → List Answer → List Answer → List Sample → List Sample → Map (List Cell) → Map (List Cell) → Result ℕ ManagerFault → Type 0
RunMade means kind arities places x calls answers answers' buffers buffers' first last =
    Answers (new_checks x arities) (RunOf arities (means kind) places calls answers answers' buffers buffers' first last)
    (λ _. (answers' ≡ answers) × (buffers' ≡ buffers) × (last ≡ first))
