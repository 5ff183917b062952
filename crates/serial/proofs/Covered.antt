-- The answers of a script, run alone, stay when the map changes only at rows that none of its reservations lets it see.
use Rattle.std.proofs.Common.{◌≡◌, ℕ, [], ◌∷◌, Some, None, Option, sym, ap, ◌∙◌, subst}
use mathlib.Core.Logic.{ite}
use Rattle.maps.specs.Maps.{Map}
use Rattle.maps.proofs.Figures.{figures_same}
use Rattle.serial.specs.Language.{Language}
use Rattle.serial.specs.Rights.{Change, Allows, becomes}
use Rattle.serial.specs.History.{Grant, Script}
use Rattle.serial.specs.History.{Deed.looked, Deed.surveyed, Deed.changed}
use Rattle.serial.specs.Alone.{change, after, Answered}

module _ {Row Pattern : Type 0} (L : Language Row Pattern) where
  -- each deed has a reservation among the grants G that allows it
  abbrev pub Covered : (Grant Pattern → Type 0) → Script Row Pattern → Type 0
  Covered G [] = Unit {0}
  Covered G (looked r v ∷ s) = ((g : Grant Pattern) × G g × L.fits r g.pattern) × Covered G s
  Covered G (surveyed (Some p) number total ∷ s) = ((g : Grant Pattern) × G g × (g.pattern ≡ p)) × Covered G s
  Covered G (surveyed None number total ∷ s) = ⊥
  Covered G (changed r a ∷ s) = ((g : Grant Pattern) × G g × Allows g.right a × L.fits r g.pattern) × Covered G s

  pub covered_more : (G H : Grant Pattern → Type 0) → ((g : Grant Pattern) → G g → H g) → (s : Script Row Pattern) → Covered G s → Covered H s
  covered_more G H f [] c = tt
  covered_more G H f (looked r v ∷ s) c = ((c.0.0, f c.0.0 c.0.1, c.0.2), covered_more G H f s c.1)
  covered_more G H f (surveyed (Some p) number total ∷ s) c = ((c.0.0, f c.0.0 c.0.1, c.0.2), covered_more G H f s c.1)
  covered_more G H f (surveyed None number total ∷ s) c = c
  covered_more G H f (changed r a ∷ s) c = ((c.0.0, f c.0.0 c.0.1, c.0.2, c.0.3), covered_more G H f s c.1)

  -- what holds of doing nothing, and still holds after one more of the changes that G allows at the row, holds of the script's change of the row
  pub by_changes : (G : Grant Pattern → Type 0) (r : Row) (P : (Option ℕ → Option ℕ) → Type 0) → P (λ c. c)
      → ((g : Grant Pattern) → G g → L.fits r g.pattern → (a : Change) → Allows g.right a → (f : Option ℕ → Option ℕ) → P f → P (λ c. becomes a (f c)))
      → (s : Script Row Pattern) → Covered G s → P (change L s r)
  by_changes G r P base more [] c = base
  by_changes G r P base more (looked r' v ∷ s) c = by_changes G r P base more s c.1
  by_changes G r P base more (surveyed (Some p) number total ∷ s) c = by_changes G r P base more s c.1
  by_changes G r P base more (surveyed None number total ∷ s) c = absurd c
  by_changes G r P base more (changed r' a ∷ s) c = pick (L.same r r') (by_changes G r P base more s c.1)
    where
      pick : (d : Dec (r ≡ r')) → P (change L s r) → P (λ k. ite d (becomes a (change L s r k)) (change L s r k))
      pick (yes e) x = more c.0.0 c.0.1 (subst (λ q. L.fits q c.0.0.pattern) (sym e) c.0.3) a c.0.2 (change L s r) x
      pick (no ne) x = x

  module _ (G : Grant Pattern → Type 0) (m n : Map Row) (kept : (g : Grant Pattern) → G g → (r : Row) → L.fits r g.pattern → m r ≡ n r) where
    after_same : (s : Script Row Pattern) (g : Grant Pattern) → G g → (r : Row) → L.fits r g.pattern → after L s m r ≡ after L s n r
    after_same s g x r f = ap (change L s r) (kept g x r f)

    pub answered_kept : (s : Script Row Pattern) → Covered G s → Answered L s m → Answered L s n
    answered_kept [] c a = tt
    answered_kept (looked r v ∷ s) c a = (a.0 ∙ after_same s c.0.0 c.0.1 r c.0.2, answered_kept s c.1 a.1)
    answered_kept (surveyed (Some p) number total ∷ s) c a = (
      figures_same (λ r. L.fits r p) (after L s m) (after L s n) number total
          (λ r f. after_same s c.0.0 c.0.1 r (subst (λ q. L.fits r q) (sym c.0.2) f)) a.0,
      answered_kept s c.1 a.1,
    )
    answered_kept (surveyed None number total ∷ s) c a = a
    answered_kept (changed r b ∷ s) c a = answered_kept s c.1 a
