use Rattle.manager.specs.Book.{Well}
use Rattle.manager_vectors.proofs.numbers_by_hand.begin_often.Given as goal

abbrev pub invariant-begins : goal.invariant-begins
invariant-begins g l = Well g.K.Kind.means l.manager l.memory

abbrev pub invariant-reserves : goal.invariant-reserves
invariant-reserves g l = Well g.K.Kind.means l.manager l.memory
