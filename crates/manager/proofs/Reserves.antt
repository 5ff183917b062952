-- The first reservation that a request collides with, from the memory of its roll.
use Rattle.std.proofs.Common.{◌≡◌, ℕ, ◌<◌, ◌≤◌, List, length, get_or, take, sym, refl, ap, ◌∙◌, subst, arith}
use Rattle.std.proofs.lemmas.List.{get_or-take, get_or_default, length-take-le}
use Rattle.kinds.specs.Meaning.{Meaning}
use Rattle.maps.specs.Maps.{In}
use Rattle.rolls.proofs.Entries.{at_in}
use Rattle.terms.specs.Fitting.{Description, described}
use Rattle.serial.specs.Rights as rights
use Rattle.serial.specs.Rights.{letter_of}
use Rattle.ledger.specs.declared.clash.Clash.{Clash}
use Rattle.ledger.specs.declared.entry.Reservation.{Reservation}
use Rattle.manager.specs.declared.fault.ManagerFault.TheVariants.{Conflict}
use Rattle.manager.specs.Book.{Book}
use Rattle.ledger.specs.Clashes.{Clashing, FirstClash, Shown, request}
use Rattle.manager.specs.Reserving.{Clear, Holds, Conflicted, tallied}

module _ (sig : List ℕ) (M : Meaning) (t letter : ℕ) (w : rights.Right) (named : letter ≡ letter_of w) (p q : Description) (read : q ≡ p) where
  one_right : (v w : rights.Right) → letter_of v ≡ letter_of w → v ≡ w
  one_right rights.Right.reading rights.Right.reading e = refl
  one_right rights.Right.reading rights.Right.writing e = absurd (omega arith)
  one_right rights.Right.writing rights.Right.reading e = absurd (omega arith)
  one_right rights.Right.writing rights.Right.writing e = refl

  pub clear : (hs : List Reservation) → ((h : Reservation) → In h hs → ¬ Clashing sig M (request t w q) h) → Clear sig M t letter p hs
  clear hs f v e h i c =
      f h i (subst (λ d. Clashing sig M (request t w d) h) (sym read) (subst (λ u. Clashing sig M (request t u p) h) (one_right v w (sym e ∙ named)) c))

  module _ (memory : List Reservation) (n : ℕ) (few : n ≤ length memory) (c : Clash) (first : FirstClash sig M (request t w q) (take n memory) c) (d : Reservation) where
    at : first.holder ≡ get_or memory c.index d
    at =
        let l = length-take-le n memory few in
        let lt : c.index < n = (let x = first.within in omega arith) in
        let lt' : c.index < length memory = omega arith in
        first.there ∙ get_or-take n memory c.index first.holder lt ∙ get_or_default memory c.index first.holder d lt'

    pub holds : Holds sig M t letter p (take n memory) (Conflict (get_or memory c.index d).owner (get_or memory c.index d).number)
    holds = record {
      right = w;
      index = c.index;
      holder = first.holder;
      named = named;
      within = first.within;
      there = first.there;
      clashing = subst (λ z. Clashing sig M (request t w z) first.holder) read first.clashing;
      before = λ h i k. first.before h i (subst (λ z. Clashing sig M (request t w z) h) (sym read) k);
      fault = ap (λ (h : Reservation). Conflict h.owner h.number) (sym at);
    }

    pub conflicted : (b b' : Book) → b.reservations ≡ take n memory → b' ≡ tallied b
        → Conflicted sig M p b b' c.sample (get_or memory c.index d).owner (get_or memory c.index d).number
    conflicted b b' e z = record {
      holder = first.holder;
      there = subst (λ l. In first.holder l) (sym e) (subst (λ h. In h (take n memory)) (sym first.there) (at_in (take n memory) c.index first.holder first.within));
      owner = ap (λ (h : Reservation). h.owner) at;
      number = ap (λ (h : Reservation). h.number) at;
      shown = subst (λ z. Shown sig M (described first.holder.pattern) z c.sample) read first.shown;
      book = z;
    }
