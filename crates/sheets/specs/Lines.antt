-- The lines of a sheet.
use Rattle.std.specs.Prelude.{◌≡◌, ℕ, List, [], ◌∷◌, ◌++◌, ◌≢◌}
use Rattle.std.specs.List.{flat_map, AllByRecursion}

-- no byte of it is a newline
abbrev pub Unbroken : List ℕ → Type 0
Unbroken line = AllByRecursion (λ b. b ≢ 10) line

-- the lines that end in a newline, and what follows the last of them
pub record LinesOf (input : List ℕ) (ended : List (List ℕ)) (rest : List ℕ) : Type 0 where
  pub joins : input ≡ flat_map (λ line. line ++ (10 ∷ [])) ended ++ rest
  pub lines : AllByRecursion Unbroken ended
  pub last : Unbroken rest
