-- A history is the list of calls with their answers, the latest first.
-- What it alone says: who is open, with which reservations, who committed, and what each transaction did.
use Rattle.std.proofs.Math.Logic.{ite}
use Rattle.std.specs.Prelude.{ℕ, List, [], ◌∷◌, Some, None, Option}
use Rattle.std.proofs.Math.Decide.{ℕ_discrete}
use Rattle.maps.specs.Maps.{In}
use Rattle.serial.specs.Rights.{Change, Change.written, Change.struck, Right, letter_of}

-- What a user asks. All but begin, which names a planner, name a transaction first; a reserve then names the letter of a
-- right, and a survey a reservation.
pub data Call (Row Pattern : Type 0) : Type 0 where
  begin : ℕ → Call Row Pattern
  reserve : ℕ → ℕ → Pattern → Call Row Pattern
  look : ℕ → Row → Call Row Pattern
  survey : ℕ → ℕ → Call Row Pattern
  write : ℕ → Row → ℕ → Call Row Pattern
  strike : ℕ → Row → Call Row Pattern
  commit : ℕ → Call Row Pattern
  abandon : ℕ → Call Row Pattern

-- A granted look with its answer, a granted survey with its number and total, or a granted write or strike.
-- `P` is how a survey names what it surveys: by a reservation's number in a history, by a pattern when run alone.
pub data Deed (Row P : Type 0) : Type 0 where
  looked : Row → Option ℕ → Deed Row P
  surveyed : P → ℕ → ℕ → Deed Row P
  changed : Row → Change → Deed Row P

-- A call with its answer: a refused call with the refusal's number; of a granted call what was asked, then the number answered.
pub data Event (Row Pattern : Type 0) : Type 0 where
  refused : Call Row Pattern → ℕ → Event Row Pattern
  began : ℕ → ℕ → Event Row Pattern
  reserved : ℕ → Right → Pattern → ℕ → Event Row Pattern
  did : ℕ → Deed Row ℕ → Event Row Pattern
  committed : ℕ → ℕ → Event Row Pattern
  abandoned : ℕ → ℕ → Event Row Pattern

-- the call of an event
abbrev pub asked : {Row Pattern : Type 0} → Event Row Pattern → Call Row Pattern
asked (refused c n) = c
asked (began planner t) = begin planner
asked (reserved t w p n) = reserve t (letter_of w) p
asked (did t (looked r v)) = look t r
asked (did t (surveyed n number total)) = survey t n
asked (did t (changed r (written k))) = write t r k
asked (did t (changed r struck)) = strike t r
asked (committed t n) = commit t
asked (abandoned t n) = abandon t

abbrev pub History : Type 0 → Type 0 → Type 0
History Row Pattern = List (Event Row Pattern)

-- a reservation as it was granted: the transaction that it is for, what it asked, and the number answered
pub record Grant (Pattern : Type 0) : Type 0 where
  pub owner : ℕ
  pub right : Right
  pub pattern : Pattern
  pub number : ℕ

module _ {Row Pattern : Type 0} where
  -- the transactions that were begun, the latest first
  abbrev pub begins : History Row Pattern → List ℕ
  begins [] = []
  begins (refused c n ∷ h) = begins h
  begins (began planner t ∷ h) = t ∷ begins h
  begins (reserved t w p n ∷ h) = begins h
  begins (did t d ∷ h) = begins h
  begins (committed t n ∷ h) = begins h
  begins (abandoned t n ∷ h) = begins h

  -- the committed transactions, the latest first
  abbrev pub commits : History Row Pattern → List ℕ
  commits [] = []
  commits (refused c n ∷ h) = commits h
  commits (began planner t ∷ h) = commits h
  commits (reserved t w p n ∷ h) = commits h
  commits (did t d ∷ h) = commits h
  commits (committed t n ∷ h) = t ∷ commits h
  commits (abandoned t n ∷ h) = commits h

  -- the numbers that commits answered
  abbrev pub commit_numbers : History Row Pattern → List ℕ
  commit_numbers [] = []
  commit_numbers (refused c n ∷ h) = commit_numbers h
  commit_numbers (began planner t ∷ h) = commit_numbers h
  commit_numbers (reserved t w p n ∷ h) = commit_numbers h
  commit_numbers (did t d ∷ h) = commit_numbers h
  commit_numbers (committed t n ∷ h) = n ∷ commit_numbers h
  commit_numbers (abandoned t n ∷ h) = commit_numbers h

  -- the transactions that a commit or an abandon ended
  abbrev pub ends : History Row Pattern → List ℕ
  ends [] = []
  ends (refused c n ∷ h) = ends h
  ends (began planner t ∷ h) = ends h
  ends (reserved t w p n ∷ h) = ends h
  ends (did t d ∷ h) = ends h
  ends (committed t n ∷ h) = t ∷ ends h
  ends (abandoned t n ∷ h) = t ∷ ends h

  -- the reservations that were granted
  abbrev pub grants : History Row Pattern → List (Grant Pattern)
  grants [] = []
  grants (refused c n ∷ h) = grants h
  grants (began planner t ∷ h) = grants h
  grants (reserved t w p n ∷ h) = record { owner = t; right = w; pattern = p; number = n } ∷ grants h
  grants (did t d ∷ h) = grants h
  grants (committed t n ∷ h) = grants h
  grants (abandoned t n ∷ h) = grants h

  -- the transaction was begun and has not ended
  abbrev pub Open : ℕ → History Row Pattern → Type 0
  Open t h = In t (begins h) × (¬ In t (ends h))

  -- the reservation was granted, to a transaction that is open
  abbrev pub Stands : History Row Pattern → Grant Pattern → Type 0
  Stands h g = In g (grants h) × Open g.owner h

-- the pattern of the reserve that answered the number n
abbrev pub pattern_of : {Pattern : Type 0} → ℕ → List (Grant Pattern) → Option Pattern
pattern_of n [] = None
pattern_of n (g ∷ gs) = ite (ℕ_discrete g.number n) (Some g.pattern) (pattern_of n gs)

-- What a transaction is fed when it is run alone: its granted looks, surveys, writes and strikes with their answers, the latest first.
-- A survey of a number that no reserve answered has no pattern.
abbrev pub Script : Type 0 → Type 0 → Type 0
Script Row Pattern = List (Deed Row (Option Pattern))

-- the deed, with the pattern in place of the reservation's number
abbrev pub fed : {Row Pattern : Type 0} → List (Grant Pattern) → Deed Row ℕ → Deed Row (Option Pattern)
fed gs (looked r v) = looked r v
fed gs (surveyed n number total) = surveyed (pattern_of n gs) number total
fed gs (changed r a) = changed r a

-- the script of the transaction t
abbrev pub script : {Row Pattern : Type 0} → ℕ → History Row Pattern → Script Row Pattern
script t [] = []
script t (refused c n ∷ h) = script t h
script t (began planner u ∷ h) = script t h
script t (reserved u w p n ∷ h) = script t h
script t (did u d ∷ h) = ite (ℕ_discrete t u) (fed (grants h) d ∷ script t h) (script t h)
script t (committed u n ∷ h) = script t h
script t (abandoned u n ∷ h) = script t h
