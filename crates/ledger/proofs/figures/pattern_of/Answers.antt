use Rattle.std.proofs.Common.{◌≡◌, ℕ, Bool, ◌&&◌, nat_eq, Decides, None, Some, ap, sym, ◌∙◌, subst, refl, rules, tests}
use Rattle.std.specs.Option.{option_map}
use Rattle.std.specs.List.{find}
use Rattle.std.proofs.lemmas.Bool.Decides.{Decides-and, Decides-eqb}
use Rattle.std.proofs.lemmas.Iterator.{YieldsList-from_slice}
use Rattle.std.proofs.lemmas.Iterator.Search.{find_from_yields_List}
use Rattle.ledger.specs.declared.entry.Reservation.{Reservation}
use Rattle.ledger.specs.Counting.{Own, Owns}
use Rattle.maps.proofs.Finding.{found}
use Rattle.ledger.proofs.figures.pattern_of.Goals as goal

-- whether a reservation is the transaction's and has the number
abbrev is_own : ℕ → ℕ → Reservation → Bool
is_own t n h = nat_eq h.owner t && nat_eq h.number n

own_decides : (t n : ℕ) (h : Reservation) → Decides (is_own t n h) (Own t n h)
own_decides t n h = Decides-and (nat_eq h.owner t) (nat_eq h.number n) (Decides-eqb h.owner t) (Decides-eqb h.number n)

pub returns-in_err-own : goal.returns-in_err-own
returns-in_err-own c =
    let hs = c.args.reservations.now in
    let test = is_own c.args.transaction c.args.number in
    let e : None ≡ find test hs = ap (option_map (λ x. x.now)) (sym c.in_err-own.was) ∙ find_from_yields_List test _ _ c.find.result c.find.ensures.ran (YieldsList-from_slice hs cc) (λ x b p k. search (rules, tests)) in
    let none = found (Own c.args.transaction c.args.number) test (own_decides c.args.transaction c.args.number) hs None e in
    subst (Owns c.args.transaction c.args.number hs) (sym c.from_residual.ensures) (λ o. none o.0 o.1 o.2)

pub returns : goal.returns
returns c =
    let hs = c.args.reservations.now in
    let test = is_own c.args.transaction c.args.number in
    let e : Some c.in_ok-own.own.now ≡ find test hs = ap (option_map (λ x. x.now)) (sym c.in_ok-own.was) ∙ find_from_yields_List test _ _ c.find.result c.find.ensures.ran (YieldsList-from_slice hs cc) (λ x b p k. search (rules, tests)) in
    let f = found (Own c.args.transaction c.args.number) test (own_decides c.args.transaction c.args.number) hs (Some c.in_ok-own.own.now) e in
    (c.in_ok-own.own.now, f.0, f.1, refl)
