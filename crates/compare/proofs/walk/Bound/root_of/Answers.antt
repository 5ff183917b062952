use Rattle.std.proofs.Common.{ℕ, sym, ap, ◌∙◌, arith}
use Rattle.terms.specs.Terms.{apply}
use Rattle.unification.specs.Fronts.{part}
use Rattle.unification.proofs.Places.{part_var}
use Rattle.compare.proofs.walk.Bound.root_of.Goals as goal

pub returns-then-cell-eq86 : goal.returns-then-cell-eq86
returns-then-cell-eq86 c =
    let sig = c.args.self.now.terms.signature.now.arities in
    let cells = c.args.self.now.terms.cells.now in
    let p : ℕ = c.deref-p.result in
    let d = c.deref-p.ensures in
    let v = c.if-cell-eq86.true in
    let o = c.in-Some.ensures in (
      c.args.self.now.terms.good.vars p d.rooted.0 v,
      d.rooted.1 v,
      λ σ s. s c.args.x c.requires (omega (arith, o)) ∙ ap (λ (k : ℕ). apply σ (part sig cells k 1)) (sym o.0) ∙ d.means σ s
          ∙ part_var sig cells p σ (c.args.self.now.terms.good.whole p d.rooted.0) v,
    )
