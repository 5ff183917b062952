-- Reservations that a request collides with.
use Rattle.std.specs.Prelude.{◌≡◌, ℕ, ◌<◌, List, length, take, slice_index_or}
use Rattle.kinds.specs.Meaning.{Meaning}
use Rattle.maps.specs.Maps.{In}
use Rattle.terms.specs.Fitting.{Description, described}
use Rattle.compare.specs.declared.sample.Sample.{Sample}
use Rattle.compare.specs.declared.sample.Common.{Common}
use Rattle.compare.specs.Answers.{CommonPart}
use Rattle.serial.specs.Rights as rights
use Rattle.serial.specs.History.{Grant}
use Rattle.serial.specs.Serial.{Collide}
use Rattle.ledger.specs.declared.clash.Clash.{Clash}
use Rattle.ledger.specs.declared.entry.Reservation.{Reservation}
use Rattle.ledger.specs.Words.{language, grant_of}

-- what is asked for, before it has a number
abbrev pub request : ℕ → rights.Right → Description → Grant Description
request t w p = record { owner = t; right = w; pattern = p; number = 0 }

-- The reservation is of another transaction, one of the two is for writing, and some row fits both.
abbrev pub Clashing : List ℕ → Meaning → Grant Description → Reservation → Type 0
Clashing sig M q h = Collide (language sig M) (grant_of h) q

-- the sample is what a comparison of the two patterns draws
abbrev pub Shown : List ℕ → Meaning → Description → Description → Sample → Type 0
Shown sig M left right s = (a : Common) × CommonPart sig M left right a × (a.sample ≡ s)

-- the first reservation of the roll that the request collides with, and a sample of the rows that fit both
pub record FirstClash (sig : List ℕ) (M : Meaning) (q : Grant Description) (hs : List Reservation) (c : Clash) : Type 0 where
  pub holder : Reservation
  pub within : c.index < length hs
  pub there : holder ≡ slice_index_or hs c.index holder
  pub clashing : Clashing sig M q holder
  pub before : (h : Reservation) → In h (take c.index hs) → ¬ Clashing sig M q h
  pub shown : Shown sig M (described holder.pattern) q.pattern c.sample
