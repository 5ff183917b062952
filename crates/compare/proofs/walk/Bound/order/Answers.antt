use Rattle.std.proofs.Common.{◌≡◌, ℕ, ◌+◌, ◌-◌, ◌≤◌, Bool, false, ◌∷◌, length, drop, set, Some, sym, refl, ap, ◌∙◌, arith, rules, length-set}
use Rattle.std.specs.List.{count_by}
use Rattle.std.proofs.lemmas.List.{drop-set}
use Rattle.unification.specs.Fronts.{part}
use Rattle.unification.specs.Sheets.{entry}
use Rattle.unification.specs.Orders.{opens}
use Rattle.unification.proofs.Lines.{placed_none, placed_more, placed_all, unsolved, opens_length, opens_set, opens_counted}
use Rattle.compare.specs.declared.binding.Binding.{Binding}
use Rattle.compare.specs.Bindings.{WithinPatterns, replacements}
use Rattle.compare.proofs.Readings.{cell_within, none_within, replace, replacements_more, replacements_none}
use Rattle.compare.proofs.walk.Bound.order.Goals as goal
use Rattle.std.proofs.ByRecursion.{All-set}

pub loop-k-init : goal.loop-k-init
loop-k-init c =
    let w = c.bound_variables-wait.result in
    let l : length w ≡ 16 = omega arith in
    let n : c.count-to_place.result ≡ opens w = (let e : c.count-to_place.result ≡ count_by (λ (b : Bool). b) w = search rules in e ∙ sym (opens_counted w)) in (
      l,
      refl,
      n,
      omega (arith, n, opens_length w),
      rw (replacements_none c.args.self.now.terms.signature.now.arities c.args.self.now.terms.cells.now c.args.left 16 c.count-to_place.result) (placed_none _ _ _ w l c.bound_variables-wait.ensures),
      none_within c.args.left (length c.args.self.now.terms.cells.now - c.args.left) 16,
    )

pub returns-in_err-leaf : goal.returns-in_err-leaf
returns-in_err-leaf c =
    rw c.from_residual.ensures
    (unsolved _ _ _ c.loop-k.wait c.args.self.now.terms.good c.args.self.now.straight c.loop-k.invariant.4.within c.in_err-leaf.ensures (omega arith))

pub loop-k-preserved : goal.loop-k-preserved
loop-k-preserved c =
    let sig = c.args.self.now.terms.signature.now.arities in
    let cells = c.args.self.now.terms.cells.now in
    let n = c.args.left in
    let out = c.loop-k.out in
    let w = c.loop-k.wait in
    let left : ℕ = c.loop-k.k in
    let h = c.in_ok-leaf.ensures in
    let x : ℕ = c.in_ok-leaf.leaf.variable in
    let k : left - 1 + 1 ≡ left = omega arith in
    let here = c.loop-k.invariant.4.within x h.chosen.is_open in
    let below : c.in_ok-leaf.leaf.place + 1 - n ≤ length cells - n = omega (arith, h.place, here) in
    let b : Binding = record { variable = c.joint.result; term = c.joint-in-loop-k.result } in
    let e : replacements sig cells n (drop (left - 1) (set out (left - 1) (Some b)))
    ≡ record { name = x; term = part sig cells (entry c.args.self.now.sheet.now x) 1 } ∷ replacements sig cells n (drop left out) =
    ap (replacements sig cells n) (drop-set out (left - 1) (Some b) (omega arith))
    ∙ replacements_more sig cells n x (entry c.args.self.now.sheet.now x) b (drop (left - 1 + 1) out) c.joint.ensures.same (c.joint-in-loop-k.ensures.same ∙ h.place)
    ∙ ap (λ (m : ℕ). replace x (part sig cells (entry c.args.self.now.sheet.now x) 1) ∷ replacements sig cells n (drop m out)) k in (
      length-set w x false ∙ c.loop-k.invariant.0,
      length-set out (left - 1) (Some b) ∙ c.loop-k.invariant.1,
      omega (arith, opens_set w x h.chosen.is_open),
      omega arith,
      rw e (placed_more _ _ _ w _ x c.args.self.now.terms.good c.loop-k.invariant.0 c.loop-k.invariant.4 h.chosen),
      All-set (WithinPatterns n (length cells - n)) out (left - 1) (Some b)
          (c.joint.ensures.small, cell_within n _ _ b.term.side b.term.cell below c.joint-in-loop-k.ensures.within)
          c.loop-k.invariant.5,
    )

pub returns : goal.returns
returns c =
    let z : c.loop-k.k ≡ 0 = omega arith in (
      placed_all _ _ _ c.loop-k.wait _ (omega arith) (rw z at c.loop-k.invariant.4),
      c.loop-k.invariant.5,
    )
