use Rattle.std.proofs.Common.{refl, ◌∙◌, rules}
use Rattle.compare.proofs.Findings.{both, good_both, fine_both, some_cells, no_clash, few_both, named_both, told}
use Rattle.compare.proofs.overlap.overlap.Goals as goal

pub invariant_of-terms : goal.invariant_of-terms
invariant_of-terms g c = record { good = good_both (both c.requires.left c.requires.right c.join-joint.ensures c.as_slice.ensures) }

pub returns-then-not-unify : goal.returns-then-not-unify
returns-then-not-unify g c =
    let b = both c.requires.left c.requires.right c.join-joint.ensures c.as_slice.ensures in
    record { answer = no_clash b _ refl c.if-not-unify.ensures; blank = search rules }

pub finish-requires : goal.finish-requires
finish-requires g c =
    let b = both c.requires.left c.requires.right c.join-joint.ensures c.as_slice.ensures in
    let k = c.as_slice-2.ensures ∙ c.join-joint.ensures.constraints in
    record { fine = fine_both b; some = some_cells b; few = few_both b k; named = named_both b k }

pub returns : goal.returns
returns g c =
    let b = both c.requires.left c.requires.right c.join-joint.ensures c.as_slice.ensures in
    let k = c.as_slice-2.ensures ∙ c.join-joint.ensures.constraints in
    record { answer = told b k refl c.if-not-unify.ensures c.finish.result c.finish.ensures; blank = search rules }
