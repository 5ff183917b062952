-- The changes of a transaction enter a map, absences first, each in order of arrival; and the room that they need.
use Rattle.std.specs.Prelude.{◌≡◌, ℕ, ◌≤◌, Bool, true, false, ◌&&◌, List, [], ◌∷◌, is_some, filter, ◌==◌}
use Rattle.std.specs.Bool.{beq}
use Rattle.maps.specs.Maps.{Map, Sized, with_row}
use Rattle.serial.specs.Rights.{Change, Change.written, Change.struck, becomes}
use Rattle.serial.specs.Machine.{Pending}

-- the change is to absent
abbrev pub absence : Change → Bool
absence (written k) = false
absence struck = true

-- t's changes to absent (absent = true), or its changes to a count
abbrev pub chosen : {Row : Type 0} → Bool → ℕ → List (Pending Row) → List (Pending Row)
chosen absent t = filter (λ c. (c.owner == t) && beq (absence c.change) absent)

-- a change of t's to absent for a row that has a count (absent = true), or to a count for a row that has none
abbrev pub alters : {Row : Type 0} → Bool → ℕ → Map Row → Pending Row → Bool
alters absent t m c = c.owner == t && (beq (absence c.change) absent && beq (is_some (m c.row)) absent)

module _ {Row : Type 0} (same : (r s : Row) → Dec (r ≡ s)) where
  -- the map after these changes have entered it, one after another
  abbrev pub entered : List (Pending Row) → Map Row → Map Row
  entered [] m = m
  entered (c ∷ cs) m = entered cs (with_row same m c.row (becomes c.change (m c.row)))

  -- once these changes have entered it, the map has at most so many rows
  pub record Room (m : Map Row) (cs : List (Pending Row)) (places : ℕ) : Type 0 where
    pub size : ℕ
    pub sized : Sized (entered cs m) size
    pub within : size ≤ places
