use Rattle.std.proofs.Common.{◌≡◌, ℕ, ◌^◌, ◌<◌, Bool, true, false, List, map, length, Option, Decides, sym, refl, ap, ◌∙◌, subst, arith}
use Rattle.std.specs.Bool.{then_some}
use Rattle.std.specs.Int.Digits.{number_from_digits}
use Rattle.std.proofs.lemmas.Bool.{false≢true}
use Rattle.std.proofs.lemmas.Grind.{common_steps}
use Rattle.columns.specs.Columns.{columns, Reads}
use Rattle.columns.specs.Steps.{worth}
use Rattle.columns.proofs.Numbers.{reads_back}
use Rattle.columns.proofs.number.read_number.Goals as goal

-- what shows a number reads so
back : (part : List ℕ) (n : ℕ) → n < 2 ^ 32 → part ≡ columns (length part) n → n ≡ number_from_digits 10 (map worth part)
back part n h s = sym (ap (λ t. number_from_digits 10 (map worth t)) s ∙ reads_back (length part) n (omega arith))

pub returns-in_err-n : goal.returns-in_err-n
returns-in_err-n c =
    rw c.from_residual.ensures
    (λ n h s. let e = back c.args.part.now n h s in let l = c.in_err-n.ensures in omega arith)

read : (part : List ℕ) (n : ℕ) (b : Bool) (r : Option ℕ) → n ≡ number_from_digits 10 (map worth part) → Decides b (part ≡ columns (length part) n) → r ≡ then_some b n → Reads part r
read part n true r e d s = subst (Reads part) (sym s) (d.0 refl)
read part n false r e d s = subst (Reads part) (sym s) (λ m h t. let same : m ≡ n = back part m h t ∙ sym e in false≢true (d.1 (t ∙ ap (columns (length part)) same)))

-- by whatever steps the answer is the number where the columns show it, and else absent
pub returns : goal.returns
returns c = read c.args.part.now c.in_ok-n.n c.shows.result _ c.in_ok-n.ensures c.shows.ensures (grind (arith, common_steps))
