-- An image and the places that it is the image of, one line for each.
use Rattle.std.specs.Prelude.{◌≡◌, ℕ, List, [], ◌∷◌, ◌++◌, length}
use Rattle.std.specs.List.{AllByRecursion}
use Rattle.terms.specs.declared.cell.Cell.{Cell}
use Rattle.stores.specs.declared.fault.StoreFault.{StoreFault}
use Rattle.stores.specs.Means.{Allowed}
use Rattle.stores.specs.Places.{Place, held, Apart}
use Rattle.image.specs.Texts.{Proper, text}
use Rattle.image.specs.Meaning.{entries, Sound}
use Rattle.image.specs.Open.{Stops}

-- the lines of places, one after another
unfoldable pub texts : List Place → List ℕ
texts [] = []
texts (p ∷ ps) = text p ++ texts ps

-- the bytes are the image of the places: 1 to 4,096 proper ones, no row twice
pub record ImageOf (Row : List Cell → Type 0) (ps : List Place) (xs : List ℕ) : Type 0 where
  pub allowed : Allowed (length ps)
  pub proper : AllByRecursion (Proper Row) ps
  pub apart : Apart (held ps)
  pub bytes : xs ≡ texts ps

-- Bytes are sound exactly where they are the image of places, and then of one list of places, which is what they mean;
-- and where the lines are refused they are the image of none.
pub record Exactly (Row : List Cell → Type 0) : Type 0 where
  pub written : (ps : List Place) (xs : List ℕ) → ImageOf Row ps xs → Sound Row xs
  pub read : (ps : List Place) (xs : List ℕ) → ImageOf Row ps xs → entries xs ≡ ps
  pub is : (xs : List ℕ) → Sound Row xs → ImageOf Row (entries xs) xs
  pub refused : (xs : List ℕ) (f : StoreFault) → Stops Row xs f → Sound Row xs → ⊥
