use Rattle.std.proofs.Common.{◌≡◌, ℕ, ◌+◌, ◌*◌, ◌<◌, List, map, length, get_or, take, refl, ap, ◌∙◌, arith}
use Rattle.std.specs.Int.Digits.{number_from_digits}
use Rattle.std.proofs.lemmas.Int.Digits.{number_more}
use Rattle.std.proofs.lemmas.List.{length-map, get_or-map, take_all}
use Rattle.columns.specs.Steps.{worth}
use Rattle.columns.proofs.Numbers.{front_number}
use Rattle.columns.proofs.number.loose.Goals as goal

-- one digit more
next : (s : List ℕ) (i n d : ℕ) → i < length s → n ≡ number_from_digits 10 (take i (map worth s)) → d ≡ worth (get_or s i 0) → n * 10 + d ≡ number_from_digits 10 (take (i + 1) (map worth s))
next s i n d h e w =
    let m = number_more 10 (map worth s) i (omega (arith, length-map s worth)) in
    let g = get_or-map worth s i 0 0 h in
    omega arith

pub returns-in_err-checked_mul : goal.returns-in_err-checked_mul
returns-in_err-checked_mul c =
    let s = c.args.part.now in
    let i = c.loop-b.b-index in
    let m = next s i c.loop-b.n _ c.loop-b-test.true c.loop-b.invariant refl in
    let f = front_number (map worth s) (i + 1) in
    rw c.from_residual.ensures (omega (arith, c.in_err-checked_mul.ensures))

pub returns-in_err-n : goal.returns-in_err-n
returns-in_err-n c =
    let s = c.args.part.now in
    let i = c.loop-b.b-index in
    let m = next s i c.loop-b.n c.worth_of.result c.loop-b-test.true c.loop-b.invariant c.worth_of.ensures in
    let f = front_number (map worth s) (i + 1) in
    rw c.from_residual-in_err-n.ensures (omega (arith, c.in_err-n.ensures, c.in_ok-checked_mul.ensures))

pub loop-b-preserved : goal.loop-b-preserved
loop-b-preserved c =
    let m = next c.args.part.now c.loop-b.b-index c.loop-b.n c.worth_of.result c.loop-b-test.true c.loop-b.invariant c.worth_of.ensures in
    omega (arith, c.in_ok-n.ensures, c.in_ok-checked_mul.ensures)

pub returns : goal.returns
returns c =
    let s = c.args.part.now in
    c.loop-b.invariant ∙ ap (number_from_digits 10) (take_all c.loop-b.b-index (map worth s) (omega (arith, length-map s worth)))
