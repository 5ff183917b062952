use Rattle.std.proofs.Common.{◌≡◌, ◌∙◌, None, length, replicate, ap, rules}
use Rattle.stores.specs.Places.{held}
use Rattle.stores.specs.Table.{contents}
use Rattle.stores.proofs.Finding.{freed}
use Rattle.stores.proofs.places.free_all.Goals as goal

pub returns : goal.returns
returns c =
    let n = length c.args.records.now in
    let e : c.fill.new.self ≡ replicate n None = c.fill.ensures.after (λ y k. search rules) in
    ap (λ rs. held (contents rs)) e ∙ freed n
