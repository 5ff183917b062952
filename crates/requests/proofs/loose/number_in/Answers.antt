use Rattle.std.proofs.Common.{◌≡◌, ℕ, ◌^◌, ◌<◌, List, length, Some, None, Option, unwrap_or, sym, ap, ◌∙◌, arith}
use Rattle.columns.specs.Columns.{columns, Reads}
use Rattle.columns.proofs.Numbers.{columns_same}
use Rattle.requests.proofs.Alike.{front_length}
use Rattle.requests.proofs.loose.number_in.Goals as goal

-- what seven columns show is read
read : (part : List ℕ) (o : Option ℕ) (r n : ℕ) → length part ≡ 7 → Reads part o → r ≡ unwrap_or o 0 → r < 2 ^ 32 → n < 10 ^ 7 → part ≡ columns 7 n → r ≡ n
read part None r n l none e small h s = absurd (none n (omega arith) (s ∙ ap (λ m. columns m n) (sym l)))
read part (Some k) r n l reads e small h s = e ∙ columns_same 7 k n (omega arith) (omega arith) (ap (λ m. columns m k) (sym l) ∙ sym reads ∙ s)

pub returns : goal.returns
returns c n h s =
    let part = c.front.result in
    read part c.read_number.result c.unwrap_or.result n (ap length c.front.ensures ∙ front_length 7 c.args.line.now) c.read_number.ensures c.unwrap_or.ensures (omega arith) h (c.front.ensures ∙ s)
