-- A store by its places: each is free, or holds a row with its count.
use Rattle.std.specs.Prelude.{◌≡◌, ℕ, ◌<◌, Bool, true, false, cond, not, ◌&&◌, List, [], ◌∷◌, map, length, is_some, Some, None, Option, slice_index_or}
use Rattle.terms.specs.declared.cell.Cell.{Cell}
use Rattle.terms.specs.Equality.{cells_eq}

-- a row with its count
abbrev pub Holding : Type 0
Holding = List Cell × ℕ

abbrev pub Place : Type 0
Place = Option Holding

abbrev pub taken : Place → Bool
taken p = is_some p

-- the row and the count of a place, where it is taken
abbrev pub row_at : Place → List Cell
row_at None = []
row_at (Some h) = h.0

abbrev pub count_at : Place → ℕ
count_at None = 0
count_at (Some h) = h.1

-- what is held, in the order of the places
abbrev pub held : List Place → List Holding
held [] = []
held (p ∷ ps) = cond (taken p) ((row_at p, count_at p) ∷ held ps) (held ps)

abbrev pub row_in : Holding → List Cell
row_in h = h.0

-- the rows alone
abbrev pub rows_in : List Holding → List (List Cell)
rows_in hs = map row_in hs

-- the count of a row, or absent
abbrev pub look : List Holding → List Cell → Option ℕ
look [] q = None
look (h ∷ hs) q = cond (cells_eq h.0 q) (Some h.1) (look hs q)

-- no row stands twice
abbrev pub apart : List Holding → Bool
apart [] = true
apart (h ∷ hs) = not (is_some (look hs h.0)) && apart hs

abbrev pub Apart : List Holding → Type 0
Apart hs = apart hs ≡ true

-- the place holds the row
abbrev pub hits : Place → List Cell → Bool
hits p q = taken p && cells_eq (row_at p) q

-- none of the first n places holds the row; place k does; place k is free
abbrev pub NoHit : List Place → List Cell → ℕ → Type 0
NoHit ps q n = (j : ℕ) (d : Place) → j < n → hits (slice_index_or ps j d) q ≡ false

pub record AtHit (ps : List Place) (q : List Cell) (k : ℕ) : Type 0 where
  pub within : k < length ps
  pub here : (d : Place) → hits (slice_index_or ps k d) q ≡ true

pub record AtFree (ps : List Place) (k : ℕ) : Type 0 where
  pub within : k < length ps
  pub here : (d : Place) → taken (slice_index_or ps k d) ≡ false
