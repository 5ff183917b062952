-- Numbers of at most nine digits, as a test.
use Rattle.std.specs.Prelude.{Bool, List, nat_lt}
use Rattle.std.specs.List.{list_all}
use Rattle.terms.specs.declared.cell.Cell.{Cell}

-- every cell has such a number
abbrev pub all_short : List Cell → Bool
all_short = list_all (λ c. nat_lt c.number 1000000000)
