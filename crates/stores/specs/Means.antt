-- What the operations of a store do to its map.
use Rattle.std.specs.Prelude.{◌≡◌, ℕ, ◌<◌, ◌≤◌, Bool, false, List, is_some, Some, None, Ok, Err, Result}
use Rattle.maps.specs.Maps.{Map, Same, with_row}
use Rattle.terms.specs.declared.cell.Cell.{Cell}
use Rattle.stores.specs.declared.count.Count.{Count}
use Rattle.stores.specs.declared.entry.Entry.{Entry}
use Rattle.stores.specs.declared.fault.StoreFault.{StoreFault}
use Rattle.stores.specs.declared.fault.StoreFault.TheVariants.{Full}
use Rattle.terms.specs.Fitting.{cells_of}
use Rattle.terms.specs.Rows.{decided}

abbrev pub count_of : Count → ℕ
count_of c = c.value

abbrev pub row_of : Entry → List Cell
row_of e = cells_of e.key

-- a number of places that a store may have
abbrev pub Allowed : ℕ → Type 0
Allowed places = (1 ≤ places) × (places ≤ 4096)

-- A put turns the map m, of so many rows, into m': it replaces the row's count or adds the row, and is refused, and changes
-- nothing, exactly for a new row when every place is taken.
abbrev pub Put : Map (List Cell) → Map (List Cell) → ℕ → ℕ → List Cell → ℕ → Result (Unit {0}) StoreFault → Type 0
Put m m' rows places row count (Ok u) = Same m' (with_row decided m row (Some count)) × (is_some (m row) ≡ false → rows < places)
Put m m' rows places row count (Err f) = (f ≡ Full) × Same m' m × (is_some (m row) ≡ false) × (rows ≡ places)

-- a drop leaves the map without the row, and says if the row was there
abbrev pub Dropped : Map (List Cell) → Map (List Cell) → List Cell → Bool → Type 0
Dropped m m' row was = Same m' (with_row decided m row None) × (was ≡ is_some (m row))
