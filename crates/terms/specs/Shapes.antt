-- Rows and patterns as two shapes of terms.
use Rattle.std.specs.Prelude.{ℕ}
use Rattle.terms.specs.declared.shape.Shape.{Shape}
use Rattle.terms.specs.declared.shape.Shape.TheVariants.{Row, Pattern}

-- how many cells there may be
abbrev pub limit : Shape → ℕ
limit Row = 12
limit Pattern = 24

-- how many variables there are
abbrev pub variables : Shape → ℕ
variables Row = 0
variables Pattern = 8
