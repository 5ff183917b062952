-- Blank lines of an image.
use Rattle.std.specs.Prelude.{◌≡◌, ℕ, ◌%◌, ◌<◌, List, ◌≢◌, slice_index}

-- of every 128 bytes the last is a newline (10), and the others are blanks (32)
abbrev pub BlankAt : ℕ → ℕ → Type 0
BlankAt k byte = (k % 128 ≡ 127 → byte ≡ 10) × ((k % 128 ≢ 127) → byte ≡ 32)

-- the bytes before place n are those of blank lines
abbrev pub BlankTo : ℕ → List ℕ → Type 0
BlankTo n xs = (k : ℕ) → k < n → BlankAt k (slice_index xs k)
