use Rattle.std.proofs.Common.{◌≡◌, refl, ap, rules}
use Rattle.std.specs.Option.{option_map}
use Rattle.terms.specs.Fitting.{Description}
use Rattle.stores.specs.Means.{count_of}
use Rattle.serial.specs.Rights.{Change.written, Change.struck}
use Rattle.runs.specs.declared.call.Call.TheVariants.{Begin, Reserve, Look, Survey, Write, Strike, Commit, Abandon}
use Rattle.runs.specs.declared.call.Answer.TheVariants as answers
use Rattle.manager.specs.Book.{book_of}
use Rattle.manager.specs.Ending.{begin_rules, Begun, commit_rules, Committed, abandon_rules, Abandoned, own_map}
use Rattle.manager.specs.Looking.{look_rules, write_rules, strike_rules, Changed}
use Rattle.manager.specs.Reserving.{reserve_rules, Reserved, Conflicted}
use Rattle.manager.specs.Surveying.{survey_rules, Surveyed}
use Rattle.runs.proofs.Replying.{told_is, booked, asked_only, stored, shown}
use Rattle.runs.proofs.run.answer.Goals as goal

pub returns-in-Begin : goal.returns-in-Begin
returns-in-Begin g c =
    let z = c.requires.sizes in
    let e = c.begin.ensures in
    let me = c.args.manager.now in
    let sig = me.signature.arities in
    let M = g.K.Kind.means me.kind in
    let b = book_of me c.args.memory.now in
    let b' = book_of c.begin.new.self c.begin.new.memory in
    let m = g.S.Store.means c.args.store.now in
    let s = c.args.buffer.now in
    record {
      answered = booked sig M (g.S.Store.places c.args.store.now) c.args.memory.now z b b' m m s s c.args.call.now c.told.result answers.Number (begin_rules b c.in-Begin.planner)
          (Begun c.in-Begin.planner b b') c.begin.result (Begin c.in-Begin.planner) c.in-Begin.is refl refl (told_is answers.Number _ c.begin.result c.told.result (λ v p. search rules) c.told.ensures) e.answers (λ p. p);
      places = refl;
      blank = c.requires.blank;
      well = e.well;
      fixed = e.fixed;
      sizes = e.sizes z;
    }

pub returns-in-Reserve : goal.returns-in-Reserve
returns-in-Reserve g c =
    let z = c.requires.sizes in
    let e = c.reserve.ensures in
    let me = c.args.manager.now in
    let sig = me.signature.arities in
    let M = g.K.Kind.means me.kind in
    let b = book_of me c.args.memory.now in
    let b' = book_of c.reserve.new.self c.reserve.new.memory in
    let m = g.S.Store.means c.args.store.now in
    let s = c.args.buffer.now in
    let p : Description = record { cells = c.in-Reserve.cells.now; constraints = c.in-Reserve.constraints.now } in
    record {
      answered = shown sig M (g.S.Store.places c.args.store.now) c.args.memory.now z b b' m m s c.reserve.new.buffer c.args.call.now c.told-in-Reserve.result answers.Number (reserve_rules sig M b c.in-Reserve.transaction c.in-Reserve.right p)
          (Reserved c.in-Reserve.transaction c.in-Reserve.right p b b') c.reserve.result (Conflicted sig M p b b' c.reserve.new.buffer) (Reserve c.in-Reserve.transaction c.in-Reserve.right c.in-Reserve.cells c.in-Reserve.constraints) c.in-Reserve.is refl (told_is answers.Number _ c.reserve.result c.told-in-Reserve.result (λ v p. search rules) c.told-in-Reserve.ensures) e.answers (λ p. p);
      places = refl;
      blank = e.blank;
      well = e.well;
      fixed = e.fixed;
      sizes = e.sizes z;
    }

pub returns-in-Look : goal.returns-in-Look
returns-in-Look g c =
    let z = c.requires.sizes in
    let e = c.look.ensures in
    let me = c.args.manager.now in
    let sig = me.signature.arities in
    let M = g.K.Kind.means me.kind in
    let b = book_of me c.args.memory.now in
    let b' = b in
    let m = g.S.Store.means c.args.store.now in
    let s = c.args.buffer.now in
    record {
      answered = asked_only sig M (g.S.Store.places c.args.store.now) c.args.memory.now z b b' m m s s c.args.call.now c.told-in-Look.result answers.Found (look_rules sig M b c.in-Look.transaction c.in-Look.cells.now)
          (λ v. option_map count_of v ≡ own_map c.in-Look.transaction b m c.in-Look.cells.now) c.look.result (Look c.in-Look.transaction c.in-Look.cells) c.in-Look.is refl refl refl (told_is answers.Found _ c.look.result c.told-in-Look.result (λ v p. search rules) c.told-in-Look.ensures) e.answers (λ p. p);
      places = refl;
      blank = e.blank;
      well = c.requires.well;
      fixed = record { signature = refl; kind = refl };
      sizes = z;
    }

pub returns-in-Survey : goal.returns-in-Survey
returns-in-Survey g c =
    let z = c.requires.sizes in
    let e = c.survey.ensures in
    let me = c.args.manager.now in
    let sig = me.signature.arities in
    let M = g.K.Kind.means me.kind in
    let b = book_of me c.args.memory.now in
    let b' = b in
    let m = g.S.Store.means c.args.store.now in
    let s = c.args.buffer.now in
    record {
      answered = asked_only sig M (g.S.Store.places c.args.store.now) c.args.memory.now z b b' m m s s c.args.call.now c.told-in-Survey.result (λ f. answers.Figures f.0 f.1) (survey_rules b c.in-Survey.transaction c.in-Survey.reservation)
          (Surveyed sig M b m c.in-Survey.transaction c.in-Survey.reservation) c.survey.result (Survey c.in-Survey.transaction c.in-Survey.reservation) c.in-Survey.is refl refl refl (told_is (λ f. answers.Figures f.0 f.1) _ c.survey.result c.told-in-Survey.result (λ v p. search rules) c.told-in-Survey.ensures) e.answers (λ p. p);
      places = refl;
      blank = e.blank;
      well = c.requires.well;
      fixed = record { signature = refl; kind = refl };
      sizes = z;
    }

pub returns-in-Write : goal.returns-in-Write
returns-in-Write g c =
    let z = c.requires.sizes in
    let e = c.write.ensures in
    let me = c.args.manager.now in
    let sig = me.signature.arities in
    let M = g.K.Kind.means me.kind in
    let b = book_of me c.args.memory.now in
    let b' = book_of c.write.new.self c.write.new.memory in
    let m = g.S.Store.means c.args.store.now in
    let s = c.args.buffer.now in
    record {
      answered = booked sig M (g.S.Store.places c.args.store.now) c.args.memory.now z b b' m m s s c.args.call.now c.told-in-Write.result (λ _. answers.Done) (write_rules sig M b c.in-Write.transaction c.in-Write.cells.now c.in-Write.count)
          (λ _. Changed c.in-Write.transaction c.in-Write.cells.now (written c.in-Write.count) b b') c.write.result (Write c.in-Write.transaction c.in-Write.cells c.in-Write.count) c.in-Write.is refl refl (told_is (λ _. answers.Done) _ c.write.result c.told-in-Write.result (λ v p. search rules) c.told-in-Write.ensures) e.answers (λ p. p);
      places = refl;
      blank = e.blank;
      well = e.well;
      fixed = e.fixed;
      sizes = e.sizes z;
    }

pub returns-in-Strike : goal.returns-in-Strike
returns-in-Strike g c =
    let z = c.requires.sizes in
    let e = c.strike.ensures in
    let me = c.args.manager.now in
    let sig = me.signature.arities in
    let M = g.K.Kind.means me.kind in
    let b = book_of me c.args.memory.now in
    let b' = book_of c.strike.new.self c.strike.new.memory in
    let m = g.S.Store.means c.args.store.now in
    let s = c.args.buffer.now in
    record {
      answered = booked sig M (g.S.Store.places c.args.store.now) c.args.memory.now z b b' m m s s c.args.call.now c.told-in-Strike.result (λ _. answers.Done) (strike_rules sig M b c.in-Strike.transaction c.in-Strike.cells.now)
          (λ _. Changed c.in-Strike.transaction c.in-Strike.cells.now struck b b') c.strike.result (Strike c.in-Strike.transaction c.in-Strike.cells) c.in-Strike.is refl refl (told_is (λ _. answers.Done) _ c.strike.result c.told-in-Strike.result (λ v p. search rules) c.told-in-Strike.ensures) e.answers (λ p. p);
      places = refl;
      blank = e.blank;
      well = e.well;
      fixed = e.fixed;
      sizes = e.sizes z;
    }

pub returns-in-Commit : goal.returns-in-Commit
returns-in-Commit g c =
    let z = c.requires.sizes in
    let e = c.commit.ensures in
    let me = c.args.manager.now in
    let sig = me.signature.arities in
    let M = g.K.Kind.means me.kind in
    let b = book_of me c.args.memory.now in
    let b' = book_of c.commit.new.self c.commit.new.memory in
    let m = g.S.Store.means c.args.store.now in
    let s = c.args.buffer.now in
    record {
      answered = stored sig M (g.S.Store.places c.args.store.now) c.args.memory.now z b b' m (g.S.Store.means c.commit.new.store) s s c.args.call.now c.told-in-Commit.result answers.Number (commit_rules b m (g.S.Store.places c.args.store.now) c.in-Commit.transaction)
          (Committed c.in-Commit.transaction b b' m (g.S.Store.means c.commit.new.store)) c.commit.result (c.commit.new.store ≡ c.args.store.now) (ap g.S.Store.means) (Commit c.in-Commit.transaction) c.in-Commit.is refl (told_is answers.Number _ c.commit.result c.told-in-Commit.result (λ v p. search rules) c.told-in-Commit.ensures) e.answers (λ p. p);
      places = e.places;
      blank = c.requires.blank;
      well = e.well;
      fixed = e.fixed;
      sizes = e.sizes z;
    }

pub returns-in-Abandon : goal.returns-in-Abandon
returns-in-Abandon g c =
    let z = c.requires.sizes in
    let e = c.abandon.ensures in
    let me = c.args.manager.now in
    let sig = me.signature.arities in
    let M = g.K.Kind.means me.kind in
    let b = book_of me c.args.memory.now in
    let b' = book_of c.abandon.new.self c.abandon.new.memory in
    let m = g.S.Store.means c.args.store.now in
    let s = c.args.buffer.now in
    record {
      answered = booked sig M (g.S.Store.places c.args.store.now) c.args.memory.now z b b' m m s s c.args.call.now c.told-in-Abandon.result answers.Number (abandon_rules b c.in-Abandon.transaction)
          (Abandoned c.in-Abandon.transaction b b') c.abandon.result (Abandon c.in-Abandon.transaction) c.in-Abandon.is refl refl (told_is answers.Number _ c.abandon.result c.told-in-Abandon.result (λ v p. search rules) c.told-in-Abandon.ensures) e.answers (λ p. p);
      places = refl;
      blank = c.requires.blank;
      well = e.well;
      fixed = e.fixed;
      sizes = e.sizes z;
    }
