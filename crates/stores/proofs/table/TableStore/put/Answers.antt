use Rattle.std.proofs.Common.{Some, refl, ⊎_elim, arith}
use Rattle.std.proofs.lemmas.List.{length-set}
use Rattle.stores.specs.declared.count.Count.{Count}
use Rattle.stores.specs.declared.entry.Entry.{Entry}
use Rattle.terms.specs.declared.row.Row.{Row}
use Rattle.stores.proofs.Changes.{replace_apart, replace_put, add_apart, add_put, full_put}
use Rattle.stores.proofs.table.TableStore.put.Goals as goal

-- the entry that is written
abbrev new : Row → Count → Entry
new k n = record { key = k; count = n }

pub invariant_of-self : goal.invariant_of-self
invariant_of-self c =
    let t = c.args.self.now in
    let rs = t.records.now in
    let e = new c.args.key.now c.args.count in
    let k = c.in-Some.k in
    let long = length-set rs k (Some e) in
    let few = t.few in
    let some = t.some in
    record {
      apart = ⊎_elim (λ at. replace_apart rs t.apart e k at) (λ f. add_apart rs t.apart e f.0 k f.1) c.in-Some.ensures.1;
      some = omega arith;
      few = omega arith;
    }

pub returns : goal.returns
returns c =
    let t = c.args.self.now in
    let rs = t.records.now in
    let e = new c.args.key.now c.args.count in
    let k = c.in-Some.k in
    record {
      put = ⊎_elim (λ at. replace_put rs t.apart e k at) (λ f. add_put rs t.apart e f.0 k f.1) c.in-Some.ensures.1;
      places = length-set rs k (Some e);
    }

pub returns-in_default : goal.returns-in_default
returns-in_default c =
    let t = c.args.self.now in
    record {
      put = full_put t.records.now t.apart (new c.args.key.now c.args.count) c.in_default.ensures.0 c.in_default.ensures.1;
      places = refl;
    }
