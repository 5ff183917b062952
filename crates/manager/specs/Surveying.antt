-- Survey: its checks in order, and its figures.
use Rattle.std.specs.Prelude.{ℕ, List, [], ◌∷◌}
use Rattle.kinds.specs.Meaning.{Meaning}
use Rattle.maps.specs.Maps.{Map, In, Figures}
use Rattle.terms.specs.declared.cell.Cell.{Cell}
use Rattle.terms.specs.Fitting.{described, Fits}
use Rattle.ledger.specs.declared.entry.Reservation.{Reservation}
use Rattle.ledger.specs.Counting.{Own, Owned}
use Rattle.manager.specs.declared.fault.ManagerFault.TheVariants.{NotOwn}
use Rattle.manager.specs.declared.memory.Memory.{Memory}
use Rattle.manager.specs.Book.{Book}
use Rattle.manager.specs.Checks.{Check, unless}
use Rattle.manager.specs.Ending.{sizes, is_open, own_map}

abbrev pub survey_rules : Book → ℕ → ℕ → List Check
survey_rules b t n = is_open t b ∷ unless NotOwn (Owned t n b.reservations) ∷ []

abbrev pub survey_checks : Memory → Book → ℕ → ℕ → List Check
survey_checks x b t n = sizes x ∷ survey_rules b t n

-- how many of the rows that t sees fit its reservation of that number, and the total of their counts
abbrev pub Surveyed : List ℕ → Meaning → Book → Map (List Cell) → ℕ → ℕ → (ℕ × ℕ) → Type 0
Surveyed sig M b m t n r =
    (h : Reservation) × In h b.reservations × Own t n h × Figures (λ q. Fits sig M q (described h.pattern)) (own_map t b m) r.0 r.1
