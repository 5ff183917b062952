use Rattle.std.proofs.Common.{◌≡◌, ℕ, ◌+◌, ◌-◌, ◌<◌, ◌∷◌, ◌++◌, ap, ◌∙◌, arith}
use Rattle.terms.specs.Terms.{apply}
use Rattle.unification.specs.Fronts.{at, part}
use Rattle.unification.proofs.Theory.{terms_none}
use Rattle.unification.proofs.Places.{step, part_var}
use Rattle.unification.proofs.Samples.{wrote_none, wrote_full, wrote_cell, wrote_head, wrote_over, wrote_then, at_fix, at_var, at_some, begins_var, var_of}
use Rattle.compare.proofs.walk.Bound.+write.Goals as goal

pub returns-then-n-eq0 : goal.returns-then-n-eq0
returns-then-n-eq0 t c = record {
  grows = (omega arith, omega arith);
  cells = λ σ a s f. rw (c.if-n-eq0.true, terms_none) (wrote_none c.args.row.now c.args.at (omega arith) c.requires.within);
}

pub returns-then-at-eq12 : goal.returns-then-at-eq12
returns-then-at-eq12 t c =
    let b = c.args.self.now.terms in
    record {
      grows = (omega arith, omega arith);
      cells = λ σ a s f. wrote_full _ c.args.row.now c.args.at (omega arith) c.if-at-eq12.true (at_some b.signature.now.arities b.cells.now c.args.i c.args.n σ a (omega arith) c.requires.here);
    }

pub write-requires : goal.write-requires
write-requires t c =
    let b = c.args.self.now.terms in (
      omega (arith, c.decreases),
      (omega arith, begins_var b.signature.now.arities b.cells.now c.args.i c.args.n (omega arith) c.requires.here (var_of _ _ _ _ _ c.deref-p.ensures c.if-c-eq86.true)),
    )

pub returns-then-c-eq86 : goal.returns-then-c-eq86
returns-then-c-eq86 t c =
    let b = c.args.self.now.terms in
    let sig = b.signature.now.arities in
    let cells = b.cells.now in
    let pos : 0 < c.args.n = omega arith in
    let p : ℕ = c.deref-p.result in
    let r = c.deref-p.ensures.rooted in
    let v = c.if-c-eq86.true in
    let y : ℕ = (at cells p).number in
    record {
      grows = (omega (arith, c.write.ensures.grows), c.write.ensures.grows.1);
      cells = λ σ a s f.
          let e : apply σ (part sig cells c.args.i c.args.n) ≡ at c.args.fills.now y ∷ apply σ (part sig cells (c.args.i + 1) (c.args.n - 1)) =
          at_var sig cells c.args.i c.args.n σ pos c.requires.here (var_of sig cells c.args.self.now.sheet.now c.args.i p c.deref-p.ensures v)
          ∙ ap (λ xs. xs ++ apply σ (part sig cells (c.args.i + 1) (c.args.n - 1)))
          (c.deref-p.ensures.means σ s ∙ part_var sig cells p σ (b.good.whole p r.0) v ∙ f y (b.good.vars p r.0 v) (r.1 v)) in
          rw e (wrote_cell _ _ _ _ _ _ (omega arith) (omega arith) (c.write.ensures.cells σ a s f));
    }

pub overflow_add-n : goal.overflow_add-n
overflow_add-n t c =
    let b = c.args.self.now.terms in
    let s = step b.signature.now.arities b.cells.now c.args.i c.args.n c.requires.here (omega arith) in
    omega (arith, s.few, rw c.if-p-i.true at c.arity-k.ensures.value, b.good.few)

pub returns-then-p-i : goal.returns-then-p-i
returns-then-p-i t c =
    let pos : 0 < c.args.n = omega arith in
    record {
      grows = (omega (arith, c.write-then-p-i.ensures.grows), c.write-then-p-i.ensures.grows.1);
      cells = λ σ a s f.
          let b = c.args.self.now.terms in
          let h = at_fix b.signature.now.arities b.cells.now c.args.i c.args.n c.arity-k.result σ pos c.requires.here (rw c.if-p-i.true at c.if-c-eq86.false) (rw c.if-p-i.true at c.arity-k.ensures.value) in
          rw h (rw c.if-p-i.true at (wrote_cell (at b.cells.now c.deref-p.result) _ c.args.row.now _ c.args.at _ (omega arith) (omega arith) (c.write-then-p-i.ensures.cells σ a s f)));
    }

pub returns-then-m-gt12 : goal.returns-then-m-gt12
returns-then-m-gt12 t c =
    let b = c.args.self.now.terms in
    let pos : 0 < c.args.n = omega arith in
    record {
      grows = (omega arith, omega arith);
      cells = λ σ a s f.
          let e = at_var b.signature.now.arities b.cells.now c.args.i c.args.n σ pos c.requires.here (c.deref-p.ensures.moved c.if-p-i.false) in
          rw e (wrote_over _ _ _ _ _ c.write-m.result
          (wrote_head _ _ _ _ _ c.arity-k.result _ _ _ _ σ b.good c.deref-p.ensures c.if-c-eq86.false c.arity-k.ensures.value s (omega arith) (omega arith) (c.write-m.ensures.cells σ a s f))
          c.if-m-gt12.true (omega arith) c.requires.within);
    }

pub returns : goal.returns
returns t c =
    let b = c.args.self.now.terms in
    let pos : 0 < c.args.n = omega arith in
    record {
      grows = (omega (arith, c.write-m.ensures.grows, c.write-2.ensures.grows), c.write-2.ensures.grows.1);
      cells = λ σ a s f.
          let e = at_var b.signature.now.arities b.cells.now c.args.i c.args.n σ pos c.requires.here (c.deref-p.ensures.moved c.if-p-i.false) in
          rw e (wrote_then _ _ _ _ _ _ c.write-m.result _
          (wrote_head _ _ _ _ _ c.arity-k.result _ _ _ _ σ b.good c.deref-p.ensures c.if-c-eq86.false c.arity-k.ensures.value s (omega arith) (omega arith) (c.write-m.ensures.cells σ a s f))
          (omega arith) (omega arith) c.requires.within (c.write-2.ensures.cells σ a s f));
    }
