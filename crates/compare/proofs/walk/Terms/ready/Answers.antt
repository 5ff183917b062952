use Rattle.std.proofs.Common.{◌≡◌, ℕ, zero, suc, ◌+◌, ◌-◌, ◌<◌, false, List, [], ◌∷◌, length, get_or, take, drop, refl, sym, ap, ◌∙◌, subst, ⊎_elim, arith, length-drop}
use Rattle.std.proofs.lemmas.Bool.{true≢false, cases_order}
use Rattle.std.proofs.lemmas.List.{take_all}
use Rattle.std.proofs.ByRecursion.{All-get_or, All-from_get_or, All-drop}
use Rattle.terms.specs.declared.cell.Cell.{Cell}
use Rattle.terms.specs.Terms.{arity}
use Rattle.unification.specs.Fronts.{Begins, terms, at, part}
use Rattle.unification.specs.Sequences.{Lacks}
use Rattle.unification.specs.Sheets.{Good}
use Rattle.unification.specs.Orders.{Has}
use Rattle.unification.proofs.Theory.{begins_length}
use Rattle.unification.proofs.Places.{step}
use Rattle.unification.proofs.Lines.{lacks_more, has_more, has_here, lacks_none}
use Rattle.compare.proofs.walk.Terms.ready.Goals as goal
use Rattle.compare.proofs.walk.Terms.ready.Goals.{else-cell-eq86-via-then-cell-eq86+else-wait-cell, else-cell-eq86-via-else-cell-eq86}

-- the cells from a place on, as the loop goes through them
rest : (cells : List Cell) (i : ℕ) → take (length cells - i) (drop i cells) ≡ drop i cells
rest cells i = take_all (length cells - i) (drop i cells) (omega (arith, length-drop i cells))

variable_small : (sig : List ℕ) (cells : List Cell) (i k : ℕ) → Good sig cells → k < length (take (length cells - i) (drop i cells))
    → (at (take (length cells - i) (drop i cells)) k).letter ≡ 86 → (at (take (length cells - i) (drop i cells)) k).number < 16
variable_small sig cells i k g =
    let Small : Cell → Type 0 = λ c. c.letter ≡ 86 → c.number < 16 in
    let none : Cell = record { letter = 0; number = 0 } in
    subst (λ xs. k < length xs → Small (at xs k)) (sym (rest cells i)) (λ l. All-get_or Small (drop i cells) k none l (All-drop Small i cells (All-from_get_or Small cells none g.vars)))

-- a variable of the first terms stands at the same place in the cells
terms_at : (sig : List ℕ) (n : ℕ) (cs : List Cell) (k : ℕ) → (at (terms sig n cs) k).letter ≡ 86 → at (terms sig n cs) k ≡ at cs k
terms_at sig n [] k v = refl
terms_at sig zero (c ∷ cs) k v = absurd (omega (arith, v))
terms_at sig (suc n) (c ∷ cs) zero v = refl
terms_at sig (suc n) (c ∷ cs) (suc k) v = terms_at sig (arity sig c + n) cs k v

pub loop-cell-init : goal.loop-cell-init
loop-cell-init c =
    let good = c.args.self.now.good in
    (subst (Begins c.args.self.now.signature.now.arities 1) (sym (rest c.args.self.now.cells.now c.args.i)) (good.whole c.args.i c.requires), (λ y o k. k), (λ y h. h), (λ k l v. absurd (omega (arith, l))))

pub returns-then-wait-cell : goal.returns-then-wait-cell
returns-then-wait-cell c =
    let sig = c.args.self.now.signature.now.arities in
    let cells = c.args.self.now.cells.now in
    let xs = take (length cells - c.args.i) (drop c.args.i cells) in
    let k : ℕ = c.loop-cell.cell-index in (
      (at xs k).number,
      variable_small sig cells c.args.i k c.args.self.now.good c.loop-cell-test.true c.if-cell-eq86.true,
      c.if-wait-cell.true,
      subst (Has (at xs k).number) (ap (terms sig 1) (rest cells c.args.i))
          (c.loop-cell.invariant.2 _ (has_here sig xs k c.loop-cell.to_come c.loop-cell.invariant.0 (omega arith) c.if-cell-eq86.true)),
    )

pub overflow_add-to_come : goal.overflow_add-to_come
overflow_add-to_come c =
    let sig = c.args.self.now.signature.now.arities in
    let cells = c.args.self.now.cells.now in
    let xs = take (length cells - c.args.i) (drop c.args.i cells) in
    let s = step sig xs c.loop-cell.cell-index c.loop-cell.to_come c.loop-cell.invariant.0 (omega arith) in
    omega (arith, s.few, c.arity.ensures.value, c.args.self.now.good.few, ap length (rest cells c.args.i), length-drop c.args.i cells)

pub loop-cell-preserved : goal.loop-cell-preserved
loop-cell-preserved c =
    let sig = c.args.self.now.signature.now.arities in
    let cells = c.args.self.now.cells.now in
    let xs = take (length cells - c.args.i) (drop c.args.i cells) in
    let k : ℕ = c.loop-cell.cell-index in
    let n : ℕ = c.loop-cell.to_come in
    let b = c.loop-cell.invariant.0 in
    let s = step sig xs k n b (omega arith) in
    let e = c.arity.ensures.value in
    let here : (at xs k).letter ≡ 86 → get_or c.args.wait (at xs k).number false ≡ false = λ v. elim c.else-cell-eq86.branch [
      | else-cell-eq86-via-then-cell-eq86+else-wait-cell w ↦ w.if-wait-cell.false
      | else-cell-eq86-via-else-cell-eq86 w ↦ absurd (w.if-cell-eq86.false v)
    ] in
    let same : (j : ℕ) → (at (part sig cells c.args.i 1) j).letter ≡ 86 → at (part sig cells c.args.i 1) j ≡ at xs j
    = λ j v. terms_at sig 1 (drop c.args.i cells) j v ∙ ap (λ ds. at ds j) (sym (rest cells c.args.i)) in (
      rw e s.begins,
      (λ y o h. c.loop-cell.invariant.1 y o (lacks_more sig xs k n y b (omega arith)
          (λ v f. true≢false (sym o ∙ ap (λ (z : ℕ). get_or c.args.wait z false) (sym f) ∙ here v)) (rw e at h))),
      (λ y h. c.loop-cell.invariant.2 y (has_more sig xs k n y b (omega arith) (rw e at h))),
      (λ j l v. ⊎_elim
          (λ (q : j ≡ k). let p = same j v ∙ ap (at xs) q in ap (λ (d : Cell). get_or c.args.wait d.number false) p ∙ here (sym (ap (λ (d : Cell). d.letter) p) ∙ v))
          (⊎_elim (λ m. c.loop-cell.invariant.3 j m v) (λ m. absurd (omega (arith, l, m)))) (cases_order j k)),
    )

pub returns-after-loop-cell : goal.returns-after-loop-cell
returns-after-loop-cell c =
    let sig = c.args.self.now.signature.now.arities in
    let cells = c.args.self.now.cells.now in
    let xs = take (length cells - c.args.i) (drop c.args.i cells) in
    let k : ℕ = c.loop-cell.cell-index in
    let z : c.loop-cell.to_come ≡ 0 = omega (arith, begins_length sig c.loop-cell.to_come (drop k xs) c.loop-cell.invariant.0, length-drop k xs) in
    λ y o. subst (Lacks y) (ap (terms sig 1) (rest cells c.args.i)) (c.loop-cell.invariant.1 y o (lacks_none sig (drop k xs) c.loop-cell.to_come y z))

pub returns-then-to_come-eq0 : goal.returns-then-to_come-eq0
returns-then-to_come-eq0 c =
    let sig = c.args.self.now.signature.now.arities in
    let cells = c.args.self.now.cells.now in
    let xs = take (length cells - c.args.i) (drop c.args.i cells) in
    λ y o. subst (Lacks y) (ap (terms sig 1) (rest cells c.args.i)) (c.loop-cell.invariant.1 y o (lacks_none sig (drop c.loop-cell.cell-index xs) c.loop-cell.to_come y c.if-to_come-eq0.true))
