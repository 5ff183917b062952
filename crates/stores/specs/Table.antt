-- What the records of a table hold.
use Rattle.std.specs.Prelude.{◌≡◌, ℕ, ◌<◌, ◌≤◌, ◌⊎◌, List, [], ◌∷◌, map, length, Some, None, Ok, Err, Option, Result}
use Rattle.std.proofs.Common.{arith}
use Rattle.std.specs.List.{AllByRecursion}
use Rattle.std.proofs.lemmas.List.{length-map}
use Rattle.terms.specs.declared.cell.Cell.{Cell}
use Rattle.stores.specs.declared.entry.Entry.{Entry}
use Rattle.stores.specs.declared.fault.StoreFault.{StoreFault}
use Rattle.stores.specs.declared.fault.StoreFault.TheVariants.{Length}
use Rattle.stores.specs.Means.{Allowed, count_of, row_of}
use Rattle.stores.specs.Places.{Holding, Place, AtFree, AtHit, NoHit, count_at, held, rows_in}
use Rattle.stores.specs.Maps.{held_room}

abbrev pub holding_of : Entry → Holding
holding_of e = (row_of e, count_of e.count)

-- a record of the table: free, or a row with its count
abbrev pub Record : Type 0
Record = Option Entry

abbrev pub place_of : Record → Place
place_of None = None
place_of (Some e) = Some (holding_of e)

abbrev pub contents : List Record → List Place
contents rs = map place_of rs

-- the place for a put: that of the row, or a free one where no record has the row
abbrev pub PutPlace : List Record → List Cell → ℕ → Type 0
PutPlace rs q k = (k < length rs) × (AtHit (contents rs) q k ⊎ (NoHit (contents rs) q (length rs) × AtFree (contents rs) k))

-- every count is at most 999,999
pub contents_small : (rs : List Record) → AllByRecursion (λ p. count_at p ≤ 999999) (contents rs)
contents_small [] = tt
contents_small (None ∷ rs) = (omega arith, contents_small rs)
contents_small (Some e ∷ rs) = (e.count.few, contents_small rs)

-- there are no more rows than records
pub contents_room : (rs : List Record) → length (rows_in (held (contents rs))) ≤ length rs
contents_room rs = omega (arith, held_room (contents rs), length-map rs place_of)

-- a table may have so many records, and every one is free; or it may not, and all are as they were
abbrev pub Cleared : List Record → List Record → Result (Unit {0}) StoreFault → Type 0
Cleared before after (Ok u) = Allowed (length before) × (held (contents after) ≡ []) × (length after ≡ length before)
Cleared before after (Err f) = (f ≡ Length) × (Allowed (length before) → ⊥) × (after ≡ before)
