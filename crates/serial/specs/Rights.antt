-- What a change makes of a row's count, and what the rights allow.
use Rattle.std.specs.Prelude.{◌≡◌, ℕ, ◌⊎◌, Some, None, Option}

-- what write and strike ask for a row: a count, or absent
pub data Change : Type 0 where
  written : ℕ → Change
  struck : Change

-- what the change makes of a row's count (or absent)
abbrev pub becomes : Change → Option ℕ → Option ℕ
becomes (written k) c = Some k
becomes struck c = None

pub data Right : Type 0 where
  reading writing : Right

-- the letter by which a user names the right: R (82) or W (87)
abbrev pub letter_of : Right → ℕ
letter_of reading = 82
letter_of writing = 87

-- the right allows the change
abbrev pub Allows : Right → Change → Type 0
Allows w a = w ≡ writing

-- under these rights, reservations of two transactions may not stand together over one row
abbrev pub Conflict : Right → Right → Type 0
Conflict v w = (v ≡ writing) ⊎ (w ≡ writing)
