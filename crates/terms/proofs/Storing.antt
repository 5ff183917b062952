-- Cells that can be kept as rows.
use Rattle.std.proofs.Common.{◌≡◌, ℕ, ◌^◌, ◌<◌, Bool, true, false, eqb, ltb, List, [], ◌∷◌, Some, None, MatchBool, Option, refl, arith}
use Rattle.std.specs.List.{AllByRecursion}
use Rattle.std.proofs.lemmas.Bool.{and_parts, and_from, lt-ltb, ltb-true}
use Rattle.kinds.specs.Meaning.{Meaning, Sound, Value, Under}
use Rattle.lists.proofs.Items.{items_few}
use Rattle.terms.specs.declared.cell.Cell.{Cell}
use Rattle.terms.specs.declared.row.Row.{Row}
use Rattle.terms.specs.Fitting.{cells_of}
use Rattle.terms.specs.Proper.{RowCells}
use Rattle.terms.specs.Rows.{Storable}
use Rattle.terms.specs.Short.{all_short}
use Rattle.terms.specs.Terms.{Fine}

-- numbers of at most nine digits
abbrev Brief : Cell → Type 0
Brief c = c.number < 10 ^ 9

pub short_all : (cs : List Cell) → all_short cs ≡ true → AllByRecursion Brief cs
short_all [] e = tt
short_all (c ∷ cs) e = let p = and_parts (ltb c.number 1000000000) (all_short cs) e in (ltb-true c.number 1000000000 p.0, short_all cs p.1)

pub short_from : (cs : List Cell) → AllByRecursion Brief cs → all_short cs ≡ true
short_from [] a = refl
short_from (c ∷ cs) a = and_from _ _ (lt-ltb c.number 1000000000 a.0) (short_from cs a.1)

-- what a row's memory holds can be kept
pub storable_row : (r : Row) → Storable (cells_of r)
storable_row r = record { some = r.some; few = items_few r.cells; short = short_all (cells_of r) r.short }

-- every row of a signature and a kind can be kept
module _ (M : Meaning) (sound : Sound M) where
  under_short : (l : ℕ) (o : Option ℕ) (n : ℕ) → M.tops l ≡ o → Under o n → n < 10 ^ 9
  under_short l None n e u = absurd u
  under_short l (Some t) n e u = let b = sound.bounded l t e in omega arith

  fine_short : (b d : Bool) (c : Cell) → MatchBool b (c.number < 32) (MatchBool d (c.number < 0) (Value M c.letter c.number)) → Brief c
  fine_short true d c f = omega arith
  fine_short false true c f = absurd (omega arith)
  fine_short false false c f = under_short c.letter (M.tops c.letter) c.number refl f

  all_fine : (cs : List Cell) → AllByRecursion (Fine M 0) cs → AllByRecursion Brief cs
  all_fine [] f = tt
  all_fine (c ∷ cs) f = (fine_short (eqb c.letter 83) (eqb c.letter 86) c f.0, all_fine cs f.1)

  pub row_storable : (sig : List ℕ) (cs : List Cell) → RowCells sig M cs → Storable cs
  row_storable sig [] r = absurd (let w = r.term.whole in omega arith)
  row_storable sig (c ∷ cs) r = record { some = omega arith; few = r.few; short = all_fine (c ∷ cs) r.term.fine }
