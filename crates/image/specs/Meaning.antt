-- What an image means: each line is free or holds a row with its count.
use Rattle.std.specs.Prelude.{◌≡◌, ℕ, zero, suc, ◌*◌, ◌/◌, ◌<◌, Bool, true, false, cond, ◌&&◌, List, [], ◌++◌, map, length, take, drop, Some, None, Option, ◌≢◌, nat_le, nat_lt, slice_index}
use Rattle.std.specs.List.{range_with_len}
use Rattle.std.specs.Option.{option_to_list}
use Rattle.std.specs.Int.Digits.{number_from_digits}
use Rattle.std.specs.Str.{bytes_eq}
use Rattle.terms.specs.declared.cell.Cell.{Cell}
use Rattle.columns.specs.Columns.{blank}
use Rattle.columns.specs.Steps.{worth}
use Rattle.terms.specs.Short.{all_short}
use Rattle.stores.specs.Means.{Allowed}
use Rattle.stores.specs.Places.{Place, taken, held, Apart}
use Rattle.image.specs.Lines.{field}
use Rattle.image.specs.Texts.{Proper, text}

-- line number k of an image, and how many lines there are
unfoldable pub line : ℕ → List ℕ → List ℕ
line k xs = take 128 (drop (k * 128) xs)

abbrev pub lines_in : List ℕ → ℕ
lines_in xs = length xs / 128

-- What a line means, read loosely: the place whose text it is, if it is the text of one.
abbrev pub cell_in : List ℕ → Cell
cell_in s = record { letter = slice_index s 0; number = number_from_digits 10 (map worth (drop 1 s)) }

abbrev pub slot_in : List ℕ → Option Cell
slot_in s = cond (bytes_eq s (blank 10)) None (Some (cell_in s))

unfoldable pub cells_shown : ℕ → List ℕ → List Cell
cells_shown zero s = []
cells_shown (suc j) s = cells_shown j s ++ option_to_list (slot_in (field j s))

unfoldable pub meaning : List ℕ → Place
meaning s = cond (bytes_eq (field 0 s) (blank 10)) None (Some (cells_shown 12 s, number_from_digits 10 (map worth (take 7 (drop 120 s)))))

-- the places of an image, one for each line
unfoldable pub entries : List ℕ → List Place
entries xs = map (λ k. meaning (line k xs)) (range_with_len 0 (lines_in xs))

-- a line that is the text of what it means
pub record Shows (Row : List Cell → Type 0) (s : List ℕ) : Type 0 where
  pub good : Proper Row (meaning s)
  pub same : s ≡ text (meaning s)

-- an image of 1 to 4,096 whole lines: each is proper, and no row stands twice
pub record Sound (Row : List Cell → Type 0) (xs : List ℕ) : Type 0 where
  pub whole : length xs ≡ lines_in xs * 128
  pub allowed : Allowed (lines_in xs)
  pub shows : (k : ℕ) → k < lines_in xs → Shows Row (line k xs)
  pub apart : Apart (held (entries xs))

-- the same of a line, and of the first k lines, as tests, for rows that stores can keep
abbrev pub fine : Place → Bool
fine None = true
fine (Some h) = nat_lt 0 (length h.0) && (nat_le (length h.0) 12 && (all_short h.0 && nat_le h.1 999999))

abbrev pub shown_line : List ℕ → Bool
shown_line s = bytes_eq s (text (meaning s)) && fine (meaning s)

unfoldable pub shown_to : ℕ → List ℕ → Bool
shown_to zero xs = true
shown_to (suc k) xs = shown_line (line k xs) && shown_to k xs

-- none of the first n lines begins with these 120 bytes, the cells of a row; line k does; line k is the first free one
abbrev pub NoKey : List ℕ → List ℕ → ℕ → Type 0
NoKey xs front n = (j : ℕ) → j < n → take 120 (line j xs) ≢ front

pub record AtKey (xs front : List ℕ) (n k : ℕ) : Type 0 where
  pub within : k < n
  pub here : take 120 (line k xs) ≡ front

pub record FirstFree (xs : List ℕ) (k : ℕ) : Type 0 where
  pub within : k < lines_in xs
  pub here : taken (meaning (line k xs)) ≡ false
  pub before : (j : ℕ) → j < k → taken (meaning (line j xs)) ≡ true
