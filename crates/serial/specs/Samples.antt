-- Three histories that are not serial, whatever the maps: they show that the serial order says something.
use Rattle.std.specs.Prelude.{ℕ, ◌≤◌, [], ◌∷◌, Some}
use Rattle.std.proofs.Math.Decide.{ℕ_discrete}
use Rattle.maps.specs.Maps.{Map}
use Rattle.serial.specs.Language.{Language}
use Rattle.serial.specs.Rights.{Change.written, Right.reading, Right.writing}
use Rattle.serial.specs.History.{History, Event.began, Event.reserved, Event.did, Event.committed, Deed.looked, Deed.surveyed, Deed.changed}
use Rattle.serial.specs.Serial.{Serial}

-- rows and patterns are numbers, and a pattern is fitted by the rows up to it
abbrev pub numbers : Language ℕ ℕ
numbers = record { same = ℕ_discrete; fits = λ r p. r ≤ p }

abbrev pub NotSerial : History ℕ ℕ → Type 0
NotSerial h = (first m : Map ℕ) → ¬ Serial numbers first h m

-- 1 and 2 are open, 1 may write the rows up to 5, and 2 may read those up to 3
abbrev pub overlapping : History ℕ ℕ
overlapping = reserved 2 reading 3 2 ∷ reserved 1 writing 5 1 ∷ began 1 2 ∷ began 1 1 ∷ []

-- both see 10 at row 5 and make it 11, so that one of the two is lost
abbrev pub lost_update : History ℕ ℕ
lost_update =
    committed 2 2 ∷ committed 1 1
    ∷ did 2 (changed 5 (written 11)) ∷ did 1 (changed 5 (written 11)) ∷ did 2 (looked 5 (Some 10)) ∷ did 1 (looked 5 (Some 10))
    ∷ reserved 2 writing 5 2 ∷ reserved 1 writing 5 1 ∷ began 1 2 ∷ began 1 1 ∷ []

-- 1 writes rows 0 and 1, and the survey of 2 counts one of them
abbrev pub half_seen : History ℕ ℕ
half_seen =
    committed 2 2 ∷ committed 1 1
    ∷ did 1 (changed 1 (written 4)) ∷ did 2 (surveyed 2 1 4) ∷ did 1 (changed 0 (written 4))
    ∷ reserved 2 reading 1 2 ∷ reserved 1 writing 1 1 ∷ began 1 2 ∷ began 1 1 ∷ []
