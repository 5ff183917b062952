use Rattle.std.proofs.Common.{◌≡◌, ℕ, ◌<◌, ap, ◌∙◌, subst, arith}
use Rattle.std.proofs.lemmas.Grind.{common_steps}
use Rattle.terms.specs.declared.cell.Cell.{Cell}
use Rattle.compare.specs.Roots.{constraint_at}
use Rattle.compare.specs.Settling.{WithinCells}
use Rattle.compare.proofs.Values.{fails_class, settled_class, settled_term}
use Rattle.compare.proofs.classes.settle.Goals as goal
use Rattle.compare.proofs.classes.settle.Goals.{in-Variable+in_ok-value-in-Variable, in-Term+else-not-meets}

abbrev cell : ℕ → ℕ → Cell
cell l n = record { letter = l; number = n }

-- by whatever steps the class's conditions are lent, and a value becomes a cell
pub returns-in_err-value-in-Variable : goal.returns-in_err-value-in-Variable
returns-in_err-value-in-Variable g c =
    rw c.from_residual.ensures
    (fails_class (g.K.Kind.means c.args.kind.now) c.args.cells.now c.args.roots.now c.args.constraints.now c.loop-constraint.constraint-index c.in-Variable.y _
    c.loop-constraint-test.true c.in-Variable.is (grind (arith, common_steps) ∙ c.gather-class.ensures) c.in_err-value-in-Variable.ensures)

pub loop-constraint-preserved : goal.loop-constraint-preserved
loop-constraint-preserved g c =
    let M = g.K.Kind.means c.args.kind.now in
    let cells = c.args.cells.now in
    let rs = c.args.roots.now in
    let ks = c.args.constraints.now in
    let i : ℕ = c.loop-constraint.constraint-index in
    let fills = c.loop-constraint.fills in
    elim c.match-roots-constraint.branch [
      | in-Variable+in_ok-value-in-Variable w ↦
          (let h = w.in_ok-value-in-Variable.ensures in
          let value = w.in_ok-value-in-Variable.value in
          let is : w.from.result ≡ cell value.letter value.code = w.from.ensures ∙ ap (cell value.letter) (grind (arith, common_steps)) in
          let small : w.in-Variable.y < 16 = subst (WithinCells cells) w.in-Variable.is (c.requires.rooted (constraint_at ks i).variable (c.requires.named i c.loop-constraint-test.true)) in
          rw (w.fills-is, is)
          (settled_class M cells rs ks fills i w.in-Variable.y w.in_ok-value-in-Variable.value.letter w.in_ok-value-in-Variable.value.code
          _ c.loop-constraint-test.true small w.in-Variable.is (grind (arith, common_steps) ∙ w.gather-class.ensures) h.0 h.1 c.loop-constraint.invariant))
      | in-Term+else-not-meets w ↦
          rw w.fills-is
          (settled_term M cells rs ks fills i w.in-Term.place w.in-Term.is (w.meets.ensures.0 w.if-not-meets.false) c.loop-constraint.invariant)
    ]
