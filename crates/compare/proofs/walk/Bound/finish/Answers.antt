use Rattle.terms.specs.Terms.{apply}
use Rattle.unification.specs.Fronts.{part}
use Rattle.compare.specs.Bindings.{replacements}
use Rattle.compare.proofs.Values.{unmet}
use Rattle.compare.proofs.Drawing.{shows, drawn}
use Rattle.compare.proofs.walk.Bound.finish.Goals as goal

pub returns-in_err-bindings : goal.returns-in_err-bindings
returns-in_err-bindings g c = rw c.from_residual.ensures (λ σ a s m. c.in_err-bindings.ensures σ a s)

pub returns-in_err-fills : goal.returns-in_err-fills
returns-in_err-fills g c =
    rw c.from_residual-in_err-fills.ensures
    (λ σ a s m. unmet (g.K.Kind.means c.args.kind.now) _ _ _ _ _ c.args.self.now.terms.good c.requires.named c.roots.ensures c.in_err-fills.ensures σ s m)

pub returns : goal.returns
returns g c =
    let b = c.args.self.now in (
      c.in_ok-bindings.ensures.0,
      c.in_ok-bindings.ensures.1,
      drawn _ _ _ _ (g.met.K.Kind.sound c.args.kind.now) _ _ b.terms.good c.requires.named c.roots.ensures c.in_ok-fills.fills c.in_ok-fills.ensures
          (replacements b.terms.signature.now.arities b.terms.cells.now c.args.left c.in_ok-bindings.bindings) c.in_ok-bindings.ensures.0 b.terms.signature.now.nought c.requires.fine _
          (λ σ a s f. shows (apply σ (part b.terms.signature.now.arities b.terms.cells.now 0 1)) c.write-len.new.row c.write-len.result (c.write-len.ensures.cells σ a s f)),
    )
