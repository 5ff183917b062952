-- The changes of a transaction enter a store, one after another.
use Rattle.std.proofs.Common.{◌≡◌, ℕ, ◌+◌, ◌<◌, ◌≤◌, Bool, true, false, cond, ◌&&◌, eqb, List, [], ◌∷◌, ◌++◌, map, length, get_or, take, drop, Some, Ok, Err, count_by, Result, sym, refl, ap, ◌∙◌, subst, arith}
use mathlib.Core.Path.{fun_ext}
use mathlib.Core.Bool.{beq}
use Rattle.std.proofs.lemmas.List.Elements.{filter-append}
use Rattle.std.proofs.lemmas.List.{take_more, take_all, map-append, drop_more}
use Rattle.std.proofs.lemmas.List.Sums.{sum_by-cons}
use Rattle.std.proofs.lemmas.Bool.{eq-eqb}
use Rattle.maps.specs.Maps.{Map, Same, Listed, Sized}
use Rattle.maps.proofs.Sizes.{of_listed, sized_unique, sized_same}
use Rattle.serial.specs.Rights.{Change.written}
use Rattle.serial.specs.Machine.{Pending, KeysOnce, with_own}
use Rattle.serial.specs.Entering.{absence, chosen, alters, entered, Room}
use Rattle.serial.proofs.Entering.{entered_append, commit_enters, sized_own, room_front, room_back, room_new, counts_chosen}
use Rattle.terms.specs.declared.cell.Cell.{Cell}
use Rattle.terms.specs.Fitting.{cells_of}
use Rattle.terms.specs.Rows.{decided}
use Rattle.stores.specs.Means.{count_of, Put}
use Rattle.stores.specs.declared.count.Count.{Count}
use Rattle.stores.specs.declared.fault.StoreFault.{StoreFault}
use Rattle.ledger.specs.declared.entry.PendingChange.{PendingChange}
use Rattle.ledger.specs.Words.{pending_of, change_of}
use Rattle.ledger.specs.Entering.{AtMost}

abbrev Row : Type 0
Row = List Cell

-- the changes of one pass among these entries
abbrev pub pass : Bool → ℕ → List PendingChange → List (Pending (List Cell))
pass a t l = chosen a t (map pending_of l)

pass_more : (a : Bool) (t : ℕ) (l : List PendingChange) (i : ℕ) (x : PendingChange) → i < length l → x ≡ get_or l i x
    → pass a t (take (i + 1) l) ≡ pass a t (take i l) ++ pass a t (x ∷ [])
pass_more a t l i x h e =
    ap (pass a t) (take_more l i x h ∙ ap (λ y. take i l ++ (y ∷ [])) (sym e))
    ∙ ap (chosen a t) (map-append pending_of (take i l) (x ∷ []))
    ∙ filter-append (λ c. eqb c.owner t && beq (absence c.change) a) (map pending_of (take i l)) (pending_of x ∷ [])

pub enters_more : (a : Bool) (t : ℕ) (l : List PendingChange) (i : ℕ) (x : PendingChange) (m₀ m m' : Map Row) → i < length l → x ≡ get_or l i x
    → Same m (entered decided (pass a t (take i l)) m₀) → Same m' (entered decided (pass a t (x ∷ [])) m)
    → Same m' (entered decided (pass a t (take (i + 1) l)) m₀)
enters_more a t l i x m₀ m m' h e s s' r =
    s' r
    ∙ ap (λ n. entered decided (pass a t (x ∷ [])) n r) (fun_ext s)
    ∙ sym (ap (λ f. f r) (ap (λ k. entered decided k m₀) (pass_more a t l i x h e) ∙ entered_append decided (pass a t (take i l)) (pass a t (x ∷ [])) m₀))

pub enters_all : (a : Bool) (t : ℕ) (l : List PendingChange) (i : ℕ) (m₀ m : Map Row) → length l ≤ i
    → Same m (entered decided (pass a t (take i l)) m₀) → Same m (entered decided (pass a t l) m₀)
enters_all a t l i m₀ m h s r = s r ∙ ap (λ k. entered decided (pass a t k) m₀ r) (take_all i l h)

-- a put where there is room is not refused
pub put_there : (c : PendingChange) (t : ℕ) (count : Count) (rows : List Row) (m m' : Map Row) (places : ℕ) (r : Result (Unit {0}) StoreFault)
    → Listed rows m → c.owner ≡ t → c.change ≡ Some count
    → Room decided m (pass false t (c ∷ [])) places → Put m m' (length rows) places (cells_of c.row) (count_of count) r
    → Same m' (entered decided (pass false t (c ∷ [])) m)
put_there c t count rows m m' places r l e z room p = subst (λ k. Same m' (entered decided k m)) (sym one) (go r p)
  where
    this : Pending Row
    this = record { owner = c.owner; row = cells_of c.row; change = written (count_of count) }

    one : pass false t (c ∷ []) ≡ record { owner = c.owner; row = cells_of c.row; change = written (count_of count) } ∷ []
    one =
        ap (λ v. cond (eqb c.owner t && beq (absence (change_of v)) false) (record { owner = c.owner; row = cells_of c.row; change = change_of v } ∷ []) []) z
        ∙ ap (λ b. cond (b && true) (record { owner = c.owner; row = cells_of c.row; change = written (count_of count) } ∷ []) []) (eq-eqb c.owner t e)

    go : (r : Result (Unit {0}) StoreFault) → Put m m' (length rows) places (cells_of c.row) (count_of count) r
        → Same m' (entered decided (record { owner = c.owner; row = cells_of c.row; change = written (count_of count) } ∷ []) m)
    go (Ok u) p = p.0
    go (Err f) p =
        let lt = room_new decided m (record { owner = c.owner; row = cells_of c.row; change = written (count_of count) }) (count_of count) (length rows) places refl (of_listed rows m l) (subst (λ k. Room decided m k places) one room) p.2 in
        let e = p.3 in
        absurd (omega arith)

module _ (t : ℕ) (l : List PendingChange) (i : ℕ) (x : PendingChange) (h : i < length l) (at : x ≡ get_or l i x) (m : Map Row) (p : ℕ)
    (room : Room decided m (pass false t (drop i l)) p) where
  ahead : Room decided m (pass false t (x ∷ []) ++ pass false t (drop (i + 1) l)) p
  ahead =
      subst (λ k. Room decided m k p)
      (ap (pass false t) (drop_more l i x h ∙ ap (λ y. y ∷ drop (i + 1) l) (sym at))
      ∙ filter-append (λ c. eqb c.owner t && beq (absence c.change) false) (pending_of x ∷ []) (map pending_of (drop (i + 1) l)))
      room

  pub room_one : (rows : List Row) → Listed rows m → Room decided m (pass false t (x ∷ [])) p
  room_one rows li =
      room_front decided (pass false t (x ∷ [])) (pass false t (drop (i + 1) l)) m (length rows) p (of_listed rows m li) (counts_chosen decided t (map pending_of (drop (i + 1) l))) ahead

  pub room_next : (m' : Map Row) (p' : ℕ) → Same m' (entered decided (pass false t (x ∷ [])) m) → p' ≡ p → Room decided m' (pass false t (drop (i + 1) l)) p'
  room_next m' p' e q =
      subst (λ k. Room decided m' (pass false t (drop (i + 1) l)) k) (sym q) (room_back decided (pass false t (x ∷ [])) (pass false t (drop (i + 1) l)) m m' p e ahead)

count_map : {X Y : Type 0} (f : X → Y) (p : Y → Bool) (l : List X) → count_by p (map f l) ≡ count_by (λ x. p (f x)) l
count_map f p [] = refl
count_map f p (x ∷ l) =
    sum_by-cons (λ y. cond (p y) 1 0) (f x) (map f l) ∙ ap (λ n. cond (p (f x)) 1 0 + n) (count_map f p l) ∙ sym (sum_by-cons (λ y. cond (p (f y)) 1 0) x l)

-- the size of what the changes leave, from the counts of those that add a row and of those that take one away
module _ (t : ℕ) (l : List PendingChange) (keys : KeysOnce (map pending_of l)) (rows : List Row) (m : Map Row) (listed : Listed rows m) (p added removed : ℕ)
    (f : added ≡ count_by (λ c. alters false t m (pending_of c)) l) (g : removed ≡ count_by (λ c. alters true t m (pending_of c)) l) where
  final : (n : ℕ) × Sized (with_own decided t (map pending_of l) m) n × (n + removed ≡ length rows + added)
  final =
      let a = sized_own decided t (map pending_of l) keys m (length rows) (of_listed rows m listed) in
      let x = count_map pending_of (alters true t m) l in
      let y = count_map pending_of (alters false t m) l in
      (a.0, a.1, omega (arith, a.2, x, y, f, g))

  pub lacks : p + removed < length rows + added → AtMost p (with_own decided t (map pending_of l) m) → ⊥
  lacks h s =
      let a = final in
      let u = sized_unique (with_own decided t (map pending_of l) m) s.size a.0 s.sized a.1 in
      let w = s.within in
      omega (arith, a.2, u, w)

  pub at_most : length rows + added ≤ p + removed → AtMost p (with_own decided t (map pending_of l) m)
  at_most h = let a = final in record { size = a.0; sized = a.1; within = omega (arith, a.2) }

  pub has_room : (m₁ : Map Row) (p₁ : ℕ) → length rows + added ≤ p + removed → p₁ ≡ p → Same m₁ (entered decided (pass true t l) m) → Room decided m₁ (pass false t l) p₁
  has_room m₁ p₁ h q s =
      let a = final in
      record {
        size = a.0;
        sized = sized_same (with_own decided t (map pending_of l) m) (entered decided (pass false t l) m₁) a.0
            (λ r. ap (λ k. entered decided (pass false t l) k r) (fun_ext s) ∙ commit_enters decided t (map pending_of l) keys m r) a.1;
        within = omega (arith, a.2);
      }

pub both_passes : (t : ℕ) (l : List PendingChange) → KeysOnce (map pending_of l) → (m m₁ m₂ : Map Row) → Same m₁ (entered decided (pass true t l) m)
    → Same m₂ (entered decided (pass false t l) m₁) → Same m₂ (with_own decided t (map pending_of l) m)
both_passes t l keys m m₁ m₂ s s' r = s' r ∙ ap (λ k. entered decided (pass false t l) k r) (fun_ext s) ∙ commit_enters decided t (map pending_of l) keys m r
