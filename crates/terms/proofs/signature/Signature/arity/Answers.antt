use Rattle.std.proofs.Common.{inl, inr, arith}
use Rattle.terms.proofs.Leaving.{arity_none, arity_past}
use Rattle.terms.proofs.signature.Signature.arity.Goals as goal

pub returns-else-cell-eq83 : goal.returns-else-cell-eq83
returns-else-cell-eq83 c = record {
  value = elim c.else-cell-eq83.either [
    | inl h ↦ arity_past c.args.self.now.arities c.args.cell (let l = c.args.self.now.long in omega (arith, h.1))
    | inr h ↦ arity_none c.args.self.now.arities c.args.cell h
  ];
  small = omega arith;
}
