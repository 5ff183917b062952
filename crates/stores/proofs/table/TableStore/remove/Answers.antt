use Rattle.std.proofs.Common.{None, refl, arith}
use Rattle.std.proofs.lemmas.List.{length-set}
use Rattle.terms.specs.Fitting.{cells_of}
use Rattle.stores.proofs.Changes.{drop_apart, dropped, not_dropped}
use Rattle.stores.proofs.table.TableStore.remove.Goals as goal

pub invariant_of-self : goal.invariant_of-self
invariant_of-self c =
    let t = c.args.self.now in
    let rs = t.records.now in
    let long = length-set rs c.in-Some.k None in
    let few = t.few in
    let some = t.some in
    record { apart = drop_apart rs t.apart (cells_of c.args.key.now) c.in-Some.k c.in-Some.ensures.1; some = omega arith; few = omega arith }

pub returns-in-Some : goal.returns-in-Some
returns-in-Some c =
    let t = c.args.self.now in
    record {
      dropped = dropped t.records.now t.apart (cells_of c.args.key.now) c.in-Some.k c.in-Some.ensures.1;
      places = length-set t.records.now c.in-Some.k None;
    }

pub returns-in-None : goal.returns-in-None
returns-in-None c =
    let t = c.args.self.now in
    record { dropped = not_dropped t.records.now t.apart (cells_of c.args.key.now) c.in-None.ensures; places = refl }
