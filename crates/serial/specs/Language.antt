-- Rows and patterns, as far as the serial order needs them.
use Rattle.std.specs.Prelude.{◌≡◌}

-- how rows are told apart, and which rows, of any size, fit a pattern
pub record Language (Row Pattern : Type 0) : Type 1 where
  pub same : (r s : Row) → Dec (r ≡ s)
  pub fits : Row → Pattern → Type 0
