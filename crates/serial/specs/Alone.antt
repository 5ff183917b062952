-- A transaction that is run alone on a map.
use Rattle.std.specs.Prelude.{◌≡◌, ℕ, List, [], ◌∷◌, Some, None, Option}
use Rattle.std.proofs.Math.Logic.{ite}
use Rattle.maps.specs.Maps.{Map, Same, Figures}
use Rattle.serial.specs.Language.{Language}
use Rattle.serial.specs.Rights.{becomes}
use Rattle.serial.specs.History.{Deed.looked, Deed.surveyed, Deed.changed, Script}

module _ {Row Pattern : Type 0} (L : Language Row Pattern) where
  -- what the script's changes of the row make of the count c
  abbrev pub change : Script Row Pattern → Row → Option ℕ → Option ℕ
  change [] r c = c
  change (looked r' v ∷ s) r c = change s r c
  change (surveyed p number total ∷ s) r c = change s r c
  change (changed r' a ∷ s) r c = ite (L.same r r') (becomes a (change s r c)) (change s r c)

  -- What a look answers after the script: what the row's changes make of the map's count, or of absent.
  -- It is also what the map has at the end, when each change has entered it.
  abbrev pub after : Script Row Pattern → Map Row → Map Row
  after s m r = change s r (m r)

  -- each look and survey of the script has the answer that it gets on this map
  abbrev pub Answered : Script Row Pattern → Map Row → Type 0
  Answered [] m = Unit {0}
  Answered (looked r v ∷ s) m = (v ≡ after s m r) × Answered s m
  Answered (surveyed (Some p) number total ∷ s) m = Figures (λ r. L.fits r p) (after s m) number total × Answered s m
  Answered (surveyed None number total ∷ s) m = ⊥
  Answered (changed r a ∷ s) m = Answered s m

  -- the scripts, the last first, run alone one after another from the first map, come to the last map, with the answers that they have
  abbrev pub InTurn : List (Script Row Pattern) → Map Row → Map Row → Type 0
  InTurn [] first last = Same last first
  InTurn (s ∷ ss) first last = (mid : Map Row) × InTurn ss first mid × Answered s mid × Same last (after s mid)

  -- a survey's answer is one pair of numbers, since a map has one number of rows that fit and one total of their counts
  abbrev pub SurveysPinned : Type 0
  SurveysPinned = (p : Pattern) (m : Map Row) (c k c' k' : ℕ)
      → Figures (λ r. L.fits r p) m c k → Figures (λ r. L.fits r p) m c' k' → (c ≡ c') × (k ≡ k')
