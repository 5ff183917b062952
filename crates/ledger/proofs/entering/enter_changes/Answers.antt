use Rattle.std.proofs.Common.{◌+◌, ◌<◌, ◌≤◌, length, refl, ◌∙◌, arith}
use Rattle.ledger.proofs.Passes.{lacks, at_most, has_room, both_passes}
use Rattle.ledger.proofs.entering.enter_changes.Goals as goal

pub enter_counts-requires : goal.enter_counts-requires
enter_counts-requires g c =
    let s = c.args.store.now in
    let places = c.size-size.ensures.places in
    let rows = c.size-size.ensures.rows in
    let fits : length (g.S.Store.rows s) + c.count_altering-added.result ≤ g.S.Store.places s + c.count_altering-removed.result = omega arith in
    has_room c.args.transaction c.args.changes.now c.requires.keys (g.S.Store.rows s) (g.S.Store.means s) (g.S.Store.listed s) (g.S.Store.places s) c.count_altering-added.result c.count_altering-removed.result
    c.count_altering-added.ensures.count c.count_altering-removed.ensures.count (g.S.Store.means c.enter_absences.new.store) (g.S.Store.places c.enter_absences.new.store) fits c.enter_absences.ensures.places c.enter_absences.ensures.map

pub returns-then-size-added : goal.returns-then-size-added
returns-then-size-added g c =
    let s = c.args.store.now in
    let places = c.size-size.ensures.places in
    let rows = c.size-size.ensures.rows in
    let over : g.S.Store.places s + c.count_altering-removed.result < length (g.S.Store.rows s) + c.count_altering-added.result = omega arith in (
      refl,
      lacks c.args.transaction c.args.changes.now c.requires.keys (g.S.Store.rows s) (g.S.Store.means s) (g.S.Store.listed s) (g.S.Store.places s) c.count_altering-added.result c.count_altering-removed.result
          c.count_altering-added.ensures.count c.count_altering-removed.ensures.count over,
      refl,
    )

pub returns : goal.returns
returns g c =
    let s = c.args.store.now in
    let places = c.size-size.ensures.places in
    let rows = c.size-size.ensures.rows in
    let fits : length (g.S.Store.rows s) + c.count_altering-added.result ≤ g.S.Store.places s + c.count_altering-removed.result = omega arith in (
      both_passes c.args.transaction c.args.changes.now c.requires.keys (g.S.Store.means s) (g.S.Store.means c.enter_absences.new.store) (g.S.Store.means c.enter_counts.new.store) c.enter_absences.ensures.map c.enter_counts.ensures.map,
      c.enter_counts.ensures.places ∙ c.enter_absences.ensures.places,
      at_most c.args.transaction c.args.changes.now c.requires.keys (g.S.Store.rows s) (g.S.Store.means s) (g.S.Store.listed s) (g.S.Store.places s) c.count_altering-added.result c.count_altering-removed.result
          c.count_altering-added.ensures.count c.count_altering-removed.ensures.count fits,
    )
