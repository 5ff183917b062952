-- What each granted call promises, of the history before it and of the maps before and after it; and every run of such calls.
use Rattle.std.specs.Prelude.{◌≡◌, ℕ, [], ◌∷◌}
use Rattle.maps.specs.Maps.{Map, Same, In, Figures}
use Rattle.serial.specs.Language.{Language}
use Rattle.serial.specs.Rights.{Allows}
use Rattle.serial.specs.History.{Event, History, Grant, Deed, begins, commit_numbers, grants, Open, Stands, script}
use Rattle.serial.specs.History.{Event.refused, Event.began, Event.reserved, Event.did, Event.committed, Event.abandoned}
use Rattle.serial.specs.History.{Deed.looked, Deed.surveyed, Deed.changed}
use Rattle.serial.specs.Alone.{after}
use Rattle.serial.specs.Serial.{Collide, Serial}

-- a reservation of t's that stands
abbrev pub Own : {Row Pattern : Type 0} → History Row Pattern → ℕ → Grant Pattern → Type 0
Own h t g = Stands h g × (g.owner ≡ t)

module _ {Row Pattern : Type 0} (L : Language Row Pattern) where
  -- what t may do, and the answer: a reservation of its own covers it, and it sees the map with its own changes
  abbrev pub Allowed : History Row Pattern → ℕ → Map Row → Deed Row ℕ → Type 0
  Allowed h t m (looked r v) = ((g : Grant Pattern) × Own h t g × L.fits r g.pattern) × (v ≡ after L (script t h) m r)
  Allowed h t m (surveyed n number total) =
      (g : Grant Pattern) × Own h t g × (g.number ≡ n) × Figures (λ r. L.fits r g.pattern) (after L (script t h) m) number total
  Allowed h t m (changed r a) = (g : Grant Pattern) × Own h t g × Allows g.right a × L.fits r g.pattern

  -- a call with its answer after the history h, with the maps before and after it
  abbrev pub Legal : History Row Pattern → Map Row → Event Row Pattern → Map Row → Type 0
  Legal h m (refused c n) m' = Same m' m
  Legal h m (began planner t) m' = (¬ In t (begins h)) × Same m' m
  Legal h m (reserved t w p n) m' =
      Open t h
      × ((g : Grant Pattern) → In g (grants h) → ¬ (g.number ≡ n))
      × ((g : Grant Pattern) → Stands h g → ¬ Collide L g (record { owner = t; right = w; pattern = p; number = n }))
      × Same m' m
  Legal h m (did t d) m' = Open t h × Allowed h t m d × Same m' m
  Legal h m (committed t n) m' = Open t h × (¬ In n (commit_numbers h)) × Same m' (after L (script t h) m)
  Legal h m (abandoned t n) m' = Open t h × Same m' m

  -- a run of a new manager over the first map, with this history, to this map
  pub data Run (first : Map Row) : History Row Pattern → Map Row → Type 0 where
    new : Run first [] first
    next : {h : History Row Pattern} {m : Map Row} (e : Event Row Pattern) (m' : Map Row) → Run first h m → Legal h m e m' → Run first (e ∷ h) m'

  -- every run over every map is serial
  abbrev pub Serializable : Type 0
  Serializable = (first m : Map Row) (h : History Row Pattern) → Run first h m → Serial L first h m
