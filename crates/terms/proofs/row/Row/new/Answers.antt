use Rattle.std.proofs.Common.{length, sym, arith}
use Rattle.std.proofs.lemmas.Bool.{eqb-true, both_ways}
use Rattle.terms.specs.Short.{all_short}
use Rattle.terms.proofs.Storing.{short_from}
use Rattle.terms.proofs.row.Row.new.Goals as goal
use Rattle.terms.proofs.row.Row.new.Goals.{then-is_empty-via-then-is_empty, then-is_empty-via-else-is_empty+then-not-are_short}

pub returns-then-is_empty : goal.returns-then-is_empty
returns-then-is_empty c = λ s. elim c.then-is_empty.branch [
  | then-is_empty-via-then-is_empty w ↦ (let e = eqb-true (length c.args.cells.now) 0 (sym (w.if-is_empty.ensures)) in let h = s.some in omega arith)
  | then-is_empty-via-else-is_empty+then-not-are_short w ↦ absurd (both_ways (all_short c.args.cells.now) (sym (w.if-not-are_short.ensures)) (short_from c.args.cells.now s.short))
]
