use Rattle.std.proofs.Common.{◌≡◌, true, [], ◌∷◌, Ok, Err, Result, refl, inl}
use Rattle.ledger.specs.Covering.{Covered}
use Rattle.ledger.specs.Words.{change_of}
use Rattle.terms.specs.Fitting.{cells_of}
use Rattle.manager.specs.declared.fault.ManagerFault.{ManagerFault}
use Rattle.manager.specs.declared.fault.ManagerFault.TheVariants.{ChangesFull, NoneWrites}
use Rattle.manager.specs.Book.{Sound, book_of}
use Rattle.manager.specs.Checks.{Answers, unless}
use Rattle.manager.specs.Looking.{Changed, HasPlace}
use Rattle.manager.proofs.Checking.{answers_after}
use Rattle.manager.proofs.Sounds.{sound_changed, fixed_sound, moved_sound}
use Rattle.manager.proofs.state.Manager.enter.Goals as goal

pub returns-then-not-is_covered : goal.returns-then-not-is_covered
returns-then-not-is_covered g c = record {
  answers = (inl (refl, c.if-not-is_covered.ensures.answer), refl);
  blank = c.is_covered.ensures.blank;
  well = c.requires.well;
  fixed = record { signature = refl; kind = refl };
  sizes = λ z. z;
}

pub returns : goal.returns
returns g c =
    let m = c.args.self.now in
    let x = c.args.memory.now in
    let sig = m.signature.arities in
    let M = g.K.Kind.means m.kind in
    let t = c.args.transaction in
    let b = book_of m x in
    let m' = c.set_change.new.self in
    let x' = c.set_change.new.memory in
    let b' = book_of m' x' in
    let row = cells_of c.args.row.now in
    let f = c.set_change.ensures.fixed in
    record {
      answers = answers_after (unless NoneWrites (Covered sig M t row true b.reservations) ∷ []) (unless ChangesFull (HasPlace t row b) ∷ []) (λ _. Changed t row (change_of c.args.change) b b') (λ _. b' ≡ b)
          c.set_change.result (c.if-not-is_covered.ensures.answer, tt) c.set_change.ensures.answers;
      blank = c.is_covered.ensures.blank;
      well = λ _. sound_after c.set_change.result c.set_change.ensures.answers;
      fixed = f;
      sizes = c.set_change.ensures.sizes;
    }
  where
    sound_after : (r : Result (Unit {0}) ManagerFault)
        → Answers (unless ChangesFull (HasPlace c.args.transaction (cells_of c.args.row.now) (book_of c.args.self.now c.args.memory.now)) ∷ [])
        (λ _. Changed c.args.transaction (cells_of c.args.row.now) (change_of c.args.change) (book_of c.args.self.now c.args.memory.now) (book_of c.set_change.new.self c.set_change.new.memory))
        (λ _. book_of c.set_change.new.self c.set_change.new.memory ≡ book_of c.args.self.now c.args.memory.now) r
        → Sound c.set_change.new.self.signature.arities (g.K.Kind.means c.set_change.new.self.kind) (book_of c.set_change.new.self c.set_change.new.memory)
    sound_after (Ok u) q =
        fixed_sound g.K.Kind.means c.args.self.now c.set_change.new.self (book_of c.set_change.new.self c.set_change.new.memory) c.set_change.ensures.fixed
        (sound_changed c.args.self.now.signature.arities (g.K.Kind.means c.args.self.now.kind) (book_of c.args.self.now c.args.memory.now) (book_of c.set_change.new.self c.set_change.new.memory)
        (c.requires.well c.requires.sizes) c.args.transaction (cells_of c.args.row.now) (change_of c.args.change) c.requires.row q.1)
    sound_after (Err e) q =
        moved_sound g.K.Kind.means c.args.self.now c.set_change.new.self c.args.memory.now c.set_change.new.memory c.set_change.ensures.fixed q.1 (c.requires.well c.requires.sizes)
