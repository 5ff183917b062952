-- Days of the week as numbers.
use Rattle.std.specs.Prelude.{ℕ}
use Rattle.telling.specs.declared.day.Day.{Day}
use Rattle.telling.specs.declared.day.Day.TheVariants.{Monday, Tuesday, Wednesday, Thursday, Friday, Saturday, Sunday}

-- Monday is 0
abbrev pub day_number : Day → ℕ
day_number Monday = 0
day_number Tuesday = 1
day_number Wednesday = 2
day_number Thursday = 3
day_number Friday = 4
day_number Saturday = 5
day_number Sunday = 6
