-- The serial order: what holds after any list of calls, of the map under the new manager, the history, and the map as it stands.
use Rattle.std.specs.Prelude.{◌≡◌, ℕ, map}
use Rattle.maps.specs.Maps.{Map, Once}
use Rattle.serial.specs.Language.{Language}
use Rattle.serial.specs.Rights.{Conflict}
use Rattle.serial.specs.History.{History, Grant, begins, ends, commits, commit_numbers, grants, Open, Stands, script}
use Rattle.serial.specs.Alone.{Answered, InTurn}

-- Two reservations collide: they are of different transactions, one is for writing, and some row fits both.
abbrev pub Collide : {Row Pattern : Type 0} → Language Row Pattern → Grant Pattern → Grant Pattern → Type 0
Collide {Row} L g q =
    (¬ (g.owner ≡ q.owner)) × Conflict g.right q.right × ((r : Row) × L.fits r g.pattern × L.fits r q.pattern)

-- no two reservations that stand collide
abbrev pub Apart : {Row Pattern : Type 0} → Language Row Pattern → History Row Pattern → Type 0
Apart {Row} {Pattern} L h = (g q : Grant Pattern) → Stands h g → Stands h q → ¬ Collide L g q

-- No two begins, no two reserves and no two commits answer one number, and no transaction ends twice:
-- so a number names one transaction, one reservation or one commit.
pub record Named {Row Pattern : Type 0} (h : History Row Pattern) : Type 0 where
  pub transactions : Once (begins h)
  pub reservations : Once (map (λ g. g.number) (grants h))
  pub commits : Once (commit_numbers h)
  pub endings : Once (ends h)

pub record Serial {Row Pattern : Type 0} (L : Language Row Pattern) (first : Map Row) (h : History Row Pattern) (m : Map Row) : Type 0 where
  -- numbers are given once
  pub named : Named h
  -- no row, of any size, fits reservations of two different open transactions when one of these is for writing
  pub apart : Apart L h
  -- The map is what the committed transactions leave when each is run alone, one after another, in the order of their commits,
  -- the first on the first map; and each of their looks and surveys got the answer that it gets there.
  pub in_turn : InTurn L (map (λ t. script t h) (commits h)) first m
  -- each open transaction's looks and surveys got the answers that they get when it is run alone on the map as it stands
  pub alone : (t : ℕ) → Open t h → Answered L (script t h) m
