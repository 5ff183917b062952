use Rattle.std.proofs.Common.{◌≡◌, ◌<◌, length, sym, ◌∙◌, arith}
use Rattle.unification.proofs.Places.{step, begins_rest, begins_args, through, args, unseen_set}
use Rattle.unification.proofs.Joins.{none, then, never_here, flat, circle, deep, small}
use Rattle.compare.proofs.walk.Terms.+unify.Goals as goal

pub returns-then-n-eq0 : goal.returns-then-n-eq0
returns-then-n-eq0 t c = none _ _ _ _ _ _ c.if-n-eq0.true c.requires.straight

pub unify-requires : goal.unify-requires
unify-requires t c =
    let sig = c.args.self.now.signature.now.arities in
    let cells = c.args.self.now.cells.now in
    let pos : 0 < c.args.n = omega arith in (
      omega (arith, c.decreases, c.skip-u.ensures.within, c.skip-v.ensures.within, c.args.self.now.good.few),
      (
        c.in-Bound.ensures.straight,
        (
          begins_rest sig cells c.args.i c.skip-u.result c.args.n pos c.skip-u.ensures.rest c.requires.left,
          begins_rest sig cells c.args.j c.skip-v.result c.args.n pos c.skip-v.ensures.rest c.requires.right,
        ),
      ),
    )

pub overflow_add-n : goal.overflow_add-n
overflow_add-n t c =
    let sig = c.args.self.now.signature.now.arities in
    let cells = c.args.self.now.cells.now in
    let pos : 0 < c.args.n = omega arith in
    let s = step sig cells c.args.i c.args.n c.requires.left pos in
    omega (arith, s.few, rw c.if-p-i.true at c.arity-k.ensures.value, c.args.self.now.good.few)

pub returns-then-q-j : goal.returns-then-q-j
returns-then-q-j t c =
    let pos : 0 < c.args.n = omega arith in
    flat _ _ _ _ _ _ _ c.arity-k.result _ _ pos c.requires.left c.requires.right
    (rw c.if-p-i.true at c.in-Equal.ensures.1) (rw (c.if-p-i.true, c.if-q-j.true) at c.in-Equal.ensures.2) (rw c.if-p-i.true at c.arity-k.ensures.value)
    (rw c.in-Equal.ensures.0 at c.unify-then-q-j.ensures)

pub returns-then-seen-x : goal.returns-then-seen-x
returns-then-seen-x t c =
    let pos : 0 < c.args.n = omega arith in
    never_here _ _ _ _ _ pos _ _ c.requires.left c.requires.right
    (circle _ _ _ _ _ _ _ c.args.self.now.good (step _ _ _ _ c.requires.left pos).within (step _ _ _ _ c.requires.right pos).within c.opened-x.ensures c.if-seen-x.true)

pub unify-requires-in-Equal : goal.unify-requires-in-Equal
unify-requires-in-Equal t c =
    let sig = c.args.self.now.signature.now.arities in
    let cells = c.args.self.now.cells.now in
    let g = c.args.self.now.good in
    let li = (step sig cells c.args.i c.args.n c.requires.left (omega arith)).within in
    let lj = (step sig cells c.args.j c.args.n c.requires.right (omega arith)).within in
    let p = c.deref-p.ensures.rooted.0 in
    let q = c.deref-q.ensures.rooted.0 in
    let x = small sig cells c.args.i c.args.j c.opened-x.result g li lj c.opened-x.ensures in
    let l : length c.args.seen ≡ 16 = omega arith in
    let u = unseen_set c.args.seen c.opened-x.result (omega (arith, x, l)) c.if-seen-x.false in (
      omega (arith, c.decreases, u, p, q, li, lj, g.few),
      (
        rw c.in-Equal.ensures.0 c.requires.straight,
        (begins_args _ _ _ _ g p c.arity-k.ensures.value, begins_args _ _ _ _ g q (rw c.in-Equal.ensures.2 at c.arity-k.ensures.value)),
      ),
    )

pub returns-then-not-unify : goal.returns-then-not-unify
returns-then-not-unify t c =
    let pos : 0 < c.args.n = omega arith in
    never_here _ _ _ _ _ pos _ _ c.requires.left c.requires.right
    (deep _ _ _ _ _ _ _ _ _ _ c.args.self.now.good (step _ _ _ _ c.requires.left pos).within (step _ _ _ _ c.requires.right pos).within
    c.deref-p.ensures c.deref-q.ensures c.in-Equal.ensures.1 c.in-Equal.ensures.2 c.arity-k.ensures.value c.opened-x.ensures (rw c.in-Equal.ensures.0 at c.if-not-unify.ensures))

pub unify-requires-in-Equal-2 : goal.unify-requires-in-Equal-2
unify-requires-in-Equal-2 t c =
    let sig = c.args.self.now.signature.now.arities in
    let cells = c.args.self.now.cells.now in
    let pos : 0 < c.args.n = omega arith in (
      omega (arith, c.decreases, c.skip-u-in-Equal.ensures.within, c.skip-v-in-Equal.ensures.within, c.args.self.now.good.few),
      (
        c.if-not-unify.ensures.straight,
        (
          begins_rest sig cells c.args.i c.skip-u-in-Equal.result c.args.n pos c.skip-u-in-Equal.ensures.rest c.requires.left,
          begins_rest sig cells c.args.j c.skip-v-in-Equal.result c.args.n pos c.skip-v-in-Equal.ensures.rest c.requires.right,
        ),
      ),
    )

pub returns-in-Never : goal.returns-in-Never
returns-in-Never t c =
    let pos : 0 < c.args.n = omega arith in
    never_here _ _ _ _ _ pos _ _ c.requires.left c.requires.right
    (λ σ a s l h. c.in-Never.ensures σ a s (sym (c.deref-p.ensures.means σ s) ∙ l ∙ c.deref-q.ensures.means σ s))

pub returns-in-Bound : goal.returns-in-Bound
returns-in-Bound t c =
    let pos : 0 < c.args.n = omega arith in
    then _ _ _ _ _ _ _ pos c.skip-u.ensures.rest c.skip-v.ensures.rest _ _ _ _ _ c.requires.left c.requires.right
    (through _ _ _ _ _ _ _ _ c.deref-p.ensures c.deref-q.ensures c.in-Bound.ensures) c.unify.ensures

pub returns-else-not-unify : goal.returns-else-not-unify
returns-else-not-unify t c =
    let pos : 0 < c.args.n = omega arith in
    then _ _ _ _ _ _ _ pos c.skip-u-in-Equal.ensures.rest c.skip-v-in-Equal.ensures.rest _ _ _ _ _ c.requires.left c.requires.right
    (through _ _ _ _ _ _ _ _ c.deref-p.ensures c.deref-q.ensures
    (args _ _ _ _ _ _ c.arity-k.result c.args.self.now.good c.deref-p.ensures.rooted.0 c.deref-q.ensures.rooted.0 c.in-Equal.ensures.1 c.in-Equal.ensures.2 c.arity-k.ensures.value
    (rw c.in-Equal.ensures.0 at c.if-not-unify.ensures)))
    c.unify-in-Equal-2.ensures
