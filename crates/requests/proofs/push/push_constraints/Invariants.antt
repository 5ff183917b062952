use Rattle.std.proofs.Common.{◌≡◌, ◌++◌, take, vec_items}
use Rattle.std.specs.List.{flat_map}
use Rattle.columns.specs.Columns.{cell_text}
use Rattle.requests.specs.Layout.{three}
use Rattle.requests.proofs.push.push_constraints.Given as goal

abbrev pub invariant-loop-constraint : goal.invariant-loop-constraint
invariant-loop-constraint l = vec_items l.out ≡ vec_items l.initial.out ++ flat_map (λ k. flat_map cell_text (three k)) (take l.constraint-index l.constraints)
