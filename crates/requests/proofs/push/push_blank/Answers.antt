use Rattle.std.proofs.Common.{◌≡◌, rules}
use Rattle.std.proofs.lemmas.Iterator.Adapters.{YieldsList-from_repeat_n, items_from_extend}
use Rattle.requests.proofs.push.push_blank.Goals as goal

pub returns : goal.returns
returns c =
    let h = items_from_extend c.extend.result c.extend.ensures.ran (YieldsList-from_repeat_n (λ x y. y ≡ x) c.args.width 32 (search rules) (search rules) (λ y e. e)) in
    search rules
