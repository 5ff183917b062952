-- Pairs of patterns that are worked out, over the bank of numbers, hours and classes.
use Rattle.std.specs.Prelude.{ℕ, List, [], ◌∷◌, replicate}
use Rattle.kinds.specs.Meaning.{Meaning}
use Rattle.kinds.specs.Sets.{number, hour, class}
use Rattle.kinds.specs.Banks.{both}
use Rattle.terms.specs.declared.cell.Cell.{Cell}
use Rattle.terms.specs.declared.constraint.Constraint.{Constraint}
use Rattle.terms.specs.Fitting.{Description, Fits}
use Rattle.unification.specs.Pairs.{Overlap}

abbrev pub bank : Meaning
bank = both number (both hour class)

-- symbol 1 has four arguments, symbol 2 two, symbol 3 one, and the others none
abbrev pub arities : List ℕ
arities = 0 ∷ 4 ∷ 2 ∷ 1 ∷ replicate 28 0

-- a symbol, a variable, a number and an hour
abbrev pub S : ℕ → Cell
S n = record { letter = 83; number = n }

abbrev pub V : ℕ → Cell
V n = record { letter = 86; number = n }

abbrev pub N : ℕ → Cell
N n = record { letter = 78; number = n }

abbrev pub H : ℕ → Cell
H n = record { letter = 72; number = n }

-- cells without constraints; and S3 V0 with constraints on V0
abbrev pub bare : List Cell → Description
bare cs = record { cells = cs; constraints = [] }

abbrev pub under : List Constraint → Description
under ks = record { cells = S 3 ∷ V 0 ∷ []; constraints = ks }

-- V0 is a number from a to b, a number other than a, an hour by masks, a class by a mask
abbrev pub between : ℕ → ℕ → Constraint
between a b = record { variable = 0; condition = record { form = 66; a = a; b = b } }

abbrev pub other_than : ℕ → Constraint
other_than a = record { variable = 0; condition = record { form = 88; a = a; b = 0 } }

abbrev pub hours_of : ℕ → ℕ → Constraint
hours_of days hours = record { variable = 0; condition = record { form = 87; a = days; b = hours } }

abbrev pub classes_of : ℕ → Constraint
classes_of mask = record { variable = 0; condition = record { form = 77; a = mask; b = 0 } }

-- no row fits both; this row does
abbrev pub Apart : Description → Description → Type 0
Apart p q = Overlap arities bank p q → ⊥

abbrev pub Together : List Cell → Description → Description → Type 0
Together row p q = Fits arities bank row p × Fits arities bank row q

pub record WorkedCases : Type 0 where
  -- one variable cannot be two values
  pub two_values : Apart (bare (S 2 ∷ V 0 ∷ V 0 ∷ [])) (bare (S 2 ∷ N 1 ∷ N 2 ∷ []))
  -- nor a term that it stands in
  pub inside_itself : Apart (bare (S 2 ∷ V 0 ∷ V 0 ∷ [])) (bare (S 2 ∷ V 0 ∷ S 3 ∷ V 0 ∷ []))
  -- free variables are the symbol 0
  pub all_free : Together (S 2 ∷ S 0 ∷ S 0 ∷ []) (bare (S 2 ∷ V 0 ∷ V 1 ∷ [])) (bare (S 2 ∷ V 0 ∷ V 0 ∷ []))
  -- values of two letters differ
  pub two_letters : Apart (bare (S 3 ∷ N 7 ∷ [])) (bare (S 3 ∷ H 7 ∷ []))
  -- constraints of both patterns count, all together
  pub smallest_of_both : Together (S 3 ∷ N 1 ∷ []) (under (between 1 5 ∷ [])) (under (other_than 3 ∷ []))
  pub none_of_both : Apart (under (between 3 3 ∷ [])) (under (other_than 3 ∷ []))
  pub none_of_three : Apart (under (between 1 2 ∷ other_than 1 ∷ [])) (under (other_than 2 ∷ []))
  pub number_or_class : Apart (under (between 0 9 ∷ [])) (under (classes_of 1 ∷ []))
  -- Tuesday 7:00 is an hour of the first five days at 7:00, and Saturday 7:00 is none
  pub in_the_week : Together (S 3 ∷ H 31 ∷ []) (under (hours_of 31 128 ∷ [])) (bare (S 3 ∷ H 31 ∷ []))
  pub at_the_weekend : Apart (under (hours_of 31 128 ∷ [])) (bare (S 3 ∷ H 127 ∷ []))
