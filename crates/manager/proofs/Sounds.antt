-- What each call makes of the book keeps it sound.
use Rattle.std.proofs.Common.{◌≡◌, ℕ, suc, ◌+◌, ◌<◌, ◌≤◌, Bool, true, false, cond, not, eqb, List, [], ◌∷◌, ◌++◌, map, length, take, Ok, Err, filter, Result, sym, subst, ⊎_elim, arith}
use mathlib.Core.Logic.{by_cases}
use Rattle.std.proofs.lemmas.List.{map-append}
use Rattle.kinds.specs.Meaning.{Meaning}
use Rattle.maps.specs.Maps.{In, Once}
use Rattle.maps.proofs.Lists.{in_push, in_kept, once_append, in_map, map_kept}
use Rattle.rolls.specs.Rolls.{Pushed}
use Rattle.rolls.specs.declared.roll.Full.{Full}
use Rattle.serial.specs.Machine.{KeysOnce}
use Rattle.serial.proofs.Rolls.{keys_kept}
use Rattle.ledger.specs.declared.entry.Transaction.{Transaction}
use Rattle.ledger.specs.declared.entry.Reservation.{Reservation}
use Rattle.ledger.specs.declared.entry.PendingChange.{PendingChange}
use Rattle.ledger.specs.Words.{pending_of}
use Rattle.manager.specs.declared.memory.Memory.{Memory}
use Rattle.manager.specs.declared.state.Manager.{Manager}
use Rattle.manager.specs.Book.{Book, Given, Sound, Fixed, book_of}
use Rattle.terms.specs.Fitting.{described, cells_of}
use Rattle.terms.specs.Proper.{ProperPattern}
use Rattle.manager.specs.Ending.{Begun, ended}
use Rattle.terms.specs.Proper.{RowCells}
use Rattle.terms.specs.Rows.{decided}
use Rattle.serial.specs.Rights.{Change}
use Rattle.serial.proofs.Rolls.{keys_enter}
use Rattle.manager.specs.Reserving.{Reserved, tallied}
use Rattle.manager.specs.Looking.{Changed}
use Rattle.manager.specs.New.{fresh}

-- where there is a place, a push is not refused
pub pushed_there : {E : Type 0} (n : ℕ) (memory : List E) (n' : ℕ) (memory' : List E) (e : E) (r : Result (Unit {0}) Full) → n < length memory
    → Pushed n memory n' memory' e r → (n' ≡ n + 1) × (take n' memory' ≡ take n memory ++ (e ∷ []))
pushed_there n memory n' memory' e (Ok u) h p = (p.1, p.2)
pushed_there n memory n' memory' e (Err f) h p = absurd (let q = p.0 in omega arith)

-- a book with other rolls
pub book_same : (ts ts' : List Transaction) (rs rs' : List Reservation) (cs cs' : List PendingChange) (t n k y : ℕ) → ts ≡ ts' → rs ≡ rs' → cs ≡ cs'
    → ◌≡◌ {A = Book} (record { transactions = ts; reservations = rs; changes = cs; last_transaction = t; last_reservation = n; last_commit = k; tally = y })
    (record { transactions = ts'; reservations = rs'; changes = cs'; last_transaction = t; last_reservation = n; last_commit = k; tally = y })
book_same ts ts' rs rs' cs cs' t n k y e f h = cc

given_push : (last : ℕ) (ns : List ℕ) → Given last ns → Given (suc last) (ns ++ (suc last ∷ []))
given_push last ns g = record {
  once = once_append ns (suc last ∷ []) g.once ((λ z. z), tt) (λ n i. ⊎_elim (λ e. let k = g.most n i in omega arith) (λ z. z));
  most = λ n i. ⊎_elim (λ y. let k = g.most n y in omega arith) (λ e. omega arith) (in_push ns (suc last) n i);
}

once_kept : {A : Type 0} (f : A → ℕ) (q : A → Bool) (l : List A) → Once (map f l) → Once (map f (filter q l))
once_kept f q [] o = tt
once_kept {A} f q (a ∷ l) o = go (q a) (once_kept f q l o.1)
  where
    go : (b : Bool) → Once (map f (filter q l)) → Once (map f (cond b (a ∷ filter q l) (filter q l)))
    go true ih = (λ i. let x = in_map f (filter q l) (f a) i in o.0 (subst (λ n. In n (map f l)) (sym x.2) (Rattle.maps.proofs.Lists.map_in f l x.0 (in_kept q l x.0 x.1).0)), ih)
    go false ih = ih

given_kept : {A : Type 0} (f : A → ℕ) (q : A → Bool) (l : List A) (last : ℕ) → Given last (map f l) → Given last (map f (filter q l))
given_kept f q l last g = record {
  once = once_kept f q l g.once;
  most = λ n i. let x = in_map f (filter q l) n i in subst (λ k. k ≤ last) (sym x.2) (g.most (f x.0) (Rattle.maps.proofs.Lists.map_in f l x.0 (in_kept q l x.0 x.1).0));
}

-- a new manager's book
pub sound_fresh : (sig : List ℕ) (M : Meaning) (b : Book) → b ≡ fresh → Sound sig M b
sound_fresh sig M b e = subst (Sound sig M) (sym e) (record {
  transactions = record { once = tt; most = λ n i. absurd i };
  reservations = record { once = tt; most = λ n i. absurd i };
  keys = tt;
  patterns = λ r i. absurd i;
  rows = λ c i. absurd i;
})

module _ (sig : List ℕ) (M : Meaning) (b b' : Book) (sound : Sound sig M b) where
  pub sound_begun : (planner n : ℕ) → Begun planner b b' n → Sound sig M b'
  sound_begun planner n e =
      let new : Transaction = record { number = n; planner = planner } in
      let l = b.last_transaction in
      let given : Given n (map (λ t. t.number) (b.transactions ++ (new ∷ []))) =
      subst (λ k. Given k (map (λ t. t.number) (b.transactions ++ (record { number = k; planner = planner } ∷ [])))) (sym e.next)
      (subst (λ ns. Given (suc l) ns) (sym (map-append (λ t. t.number) b.transactions (record { number = suc l; planner = planner } ∷ []))) (given_push l (map (λ t. t.number) b.transactions) sound.transactions)) in
      subst (Sound sig M) (sym e.book)
      (record { transactions = given; reservations = sound.reservations; keys = sound.keys; patterns = sound.patterns; rows = sound.rows })

  pub sound_reserved : (t letter n : ℕ) (p : Rattle.terms.specs.Fitting.Description) → ProperPattern sig M p → Reserved t letter p b b' n → Sound sig M b'
  sound_reserved t letter n p proper e =
      let l = b.last_reservation in
      let given : Given n (map (λ r. r.number) (b.reservations ++ (e.entry ∷ []))) =
      subst (λ ns. Given n ns) (sym (map-append (λ r. r.number) b.reservations (e.entry ∷ [])))
      (subst (λ k. Given n (map (λ r. r.number) b.reservations ++ (k ∷ []))) (sym e.numbered)
      (subst (λ k. Given k (map (λ r. r.number) b.reservations ++ (k ∷ []))) (sym e.next) (given_push l (map (λ r. r.number) b.reservations) sound.reservations))) in
      subst (Sound sig M) (sym e.book) (record {
        transactions = sound.transactions;
        reservations = given;
        keys = sound.keys;
        patterns = λ r i. ⊎_elim (sound.patterns r) (λ z. subst (λ y. ProperPattern sig M (described y.pattern)) (sym z) (subst (ProperPattern sig M) (sym e.pattern) proper)) (in_push b.reservations e.entry r i);
        rows = sound.rows;
      })

  pub sound_tallied : b' ≡ tallied b → Sound sig M b'
  sound_tallied e = subst (Sound sig M) (sym e) (record { transactions = sound.transactions; reservations = sound.reservations; keys = sound.keys; patterns = sound.patterns; rows = sound.rows })

  pub sound_changed : (t : ℕ) (row : List Rattle.terms.specs.declared.cell.Cell.Cell) (a : Change) → RowCells sig M row → Changed t row a b b' → Sound sig M b'
  sound_changed t row a proper e = subst (Sound sig M) (sym e.book) (record {
    transactions = sound.transactions;
    reservations = sound.reservations;
    keys = subst (λ l. KeysOnce l) (sym e.changes) (keys_enter decided t row a (map pending_of b.changes) sound.keys);
    patterns = sound.patterns;
    rows = λ c i. by_cases (decided (cells_of c.row) row) (λ z. subst (RowCells sig M) (sym z) proper) (λ ne. sound.rows c (e.rows c i ne));
  })

  pub sound_ended : (t k : ℕ) → b' ≡ ended t k b → Sound sig M b'
  sound_ended t k e =
      let mine : PendingChange → Bool = λ c. not (eqb c.owner t) in
      subst (Sound sig M) (sym e) (record {
        transactions = given_kept (λ x. x.number) (λ x. not (eqb x.number t)) b.transactions b.last_transaction sound.transactions;
        reservations = given_kept (λ r. r.number) (λ r. not (eqb r.owner t)) b.reservations b.last_reservation sound.reservations;
        keys = subst (λ l. KeysOnce l) (sym (map_kept pending_of (λ c. not (eqb c.owner t)) b.changes)) (keys_kept (λ c. not (eqb c.owner t)) (map pending_of b.changes) sound.keys);
        patterns = λ r i. sound.patterns r (in_kept (λ r. not (eqb r.owner t)) b.reservations r i).0;
        rows = λ c i. sound.rows c (in_kept mine b.changes c i).0;
      })

-- under the same signature and kind
module _ {K : Type 0} (means : K → Meaning) (m m' : Manager K) where
  pub fixed_sound : (b : Book) → Fixed m m' → Sound m.signature.arities (means m.kind) b → Sound m'.signature.arities (means m'.kind) b
  fixed_sound b f s =
      subst (λ z. Sound z.arities (means m'.kind) b) (sym f.signature) (subst (λ z. Sound m.signature.arities (means z) b) (sym f.kind) s)

  pub moved_sound : (x x' : Memory) → Fixed m m' → book_of m' x' ≡ book_of m x → Sound m.signature.arities (means m.kind) (book_of m x)
      → Sound m'.signature.arities (means m'.kind) (book_of m' x')
  moved_sound x x' f e s = fixed_sound (book_of m' x') f (subst (Sound m.signature.arities (means m.kind)) (sym e) s)
