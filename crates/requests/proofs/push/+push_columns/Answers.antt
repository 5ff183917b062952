use Rattle.std.proofs.Common.{◌≡◌, ◌+◌, ◌-◌, ◌/◌, ◌%◌, [], ◌∷◌, ◌++◌, vec_items, sym, ap, ◌∙◌, arith}
use Rattle.columns.specs.Columns.{blank, columns}
use Rattle.columns.proofs.Numbers.{columns_digit, columns_step}
use Rattle.requests.proofs.Pushes.{onto}
use Rattle.requests.proofs.push.+push_columns.Goals as goal
use Rattle.requests.proofs.push.+push_columns.Goals.{then-n-lt10+in_ok-push_blank, else-n-lt10+in_ok-push_columns}

pub returns : goal.returns
returns t c =
    let start = vec_items c.args.out.now in
    let w = c.args.width in
    let n = c.args.n in
    let digit = 48 + n % 10 in
    elim c.if-n-lt10.branch [
      | then-n-lt10+in_ok-push_blank v ↦
          let front : vec_items c.if-n-lt10.out ≡ start ++ blank (w - 1) =
          ap vec_items v.out-is ∙ v.in_ok-push_blank.ensures ∙ ap (λ m. start ++ blank m) c.saturating_sub-before.ensures in
          onto start (blank (w - 1)) (digit ∷ []) front c.in_ok-push.ensures.items ∙ ap (λ l. start ++ l) (sym (columns_digit w n (omega arith)))
      | else-n-lt10+in_ok-push_columns v ↦
          let front : vec_items c.if-n-lt10.out ≡ start ++ columns (w - 1) (n / 10) =
          ap vec_items v.out-is ∙ v.in_ok-push_columns.ensures ∙ ap (λ m. start ++ columns m (n / 10)) c.saturating_sub-before.ensures in
          onto start (columns (w - 1) (n / 10)) (digit ∷ []) front c.in_ok-push.ensures.items ∙ ap (λ l. start ++ l) (sym (columns_step w n (omega arith) (omega arith)))
    ]
