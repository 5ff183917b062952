-- The two parts of a survey: rows of the store without a change of the transaction's, and its own changes.
use Rattle.std.specs.Prelude.{◌≡◌, ℕ, List, None}
use Rattle.maps.specs.Maps.{In}
use Rattle.serial.specs.Machine.{Pending, pending_for}

-- of these rows, those that fit and have no change of t's
abbrev pub Unchanged : {Row : Type 0} → ((r s : Row) → Dec (r ≡ s)) → ℕ → List (Pending Row) → (Row → Type 0) → List Row → Row → Type 0
Unchanged same t cs fits rows r = In r rows × fits r × (pending_for same t r cs ≡ None)

-- the rows that fit and have one of these changes, of t's
abbrev pub Changed : {Row : Type 0} → ℕ → (Row → Type 0) → List (Pending Row) → Row → Type 0
Changed {Row} t fits cs r = ((c : Pending Row) × In c cs × (c.owner ≡ t) × (c.row ≡ r)) × fits r
