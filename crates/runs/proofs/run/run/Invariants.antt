use Rattle.std.proofs.Common.{◌≡◌, take}
use Rattle.unification.specs.Sheets.{Blank}
use Rattle.runs.proofs.Going.{Going}
use Rattle.runs.proofs.run.run.Given as goal

abbrev pub invariant-loop-i : goal.invariant-loop-i
invariant-loop-i g l =
    Going g.K.Kind.means l.initial.manager.kind l.initial.manager.signature.arities (g.S.Store.places l.initial.store) (g.S.Store.means l.initial.store) (take l.n l.calls) l.initial.answers l.initial.buffers l.answers l.buffers l.i l.manager l.memory (g.S.Store.means l.store)
    × Blank l.sheet
    × (g.S.Store.places l.store ≡ g.S.Store.places l.initial.store)
