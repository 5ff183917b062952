-- What is asked of sizes.
use Rattle.std.specs.Prelude.{◌≡◌, ℕ, ◌+◌, cond, is_some, Option}
use Rattle.maps.specs.Maps.{Map, Sized, with_row}

-- 1 for a count, 0 for absent
abbrev pub present : Option ℕ → ℕ
present v = cond (is_some v) 1 0

-- a map has one size at most
abbrev pub OneSize : Type 0 → Type 0
OneSize Row = (m : Map Row) (n k : ℕ) → Sized m n → Sized m k → n ≡ k

-- a put or a drop moves the size by what the row had and what it then has
abbrev pub SizeMoves : Type 0 → Type 0
SizeMoves Row =
    (same : (r s : Row) → Dec (r ≡ s)) (m : Map Row) (n : ℕ) (r : Row) (v : Option ℕ) → Sized m n
    → (n' : ℕ) × Sized (with_row same m r v) n' × (n' + present (m r) ≡ n + present v)
