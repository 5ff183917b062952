-- The scan of cells: what the cells before a place, and the cell at it, say of all proper cells.
use Rattle.std.proofs.Common.{◌≡◌, ℕ, zero, suc, ◌+◌, ◌-◌, ◌<◌, ◌≤◌, ◌⊎◌, List, [], ◌∷◌, ◌++◌, length, get_or, take, drop, replicate, sym, refl, ap, ◌∙◌, subst, inr, arith}
use mathlib.Core.Logic.{⊎_map}
use Rattle.std.specs.List.{AllByRecursion}
use Rattle.std.proofs.lemmas.List.{take_more, take-append-drop, take_at, take_all, length-take, length-take-le, length-drop, length-append, length-replicate, get_or_default, get_or_past}
use Rattle.std.proofs.ByRecursion.{All-append, All-get_or, All-more}
use Rattle.refusals.specs.Places.{FirstFault}
use Rattle.refusals.proofs.Places.{agrees_at}
use Rattle.kinds.specs.Meaning.{Meaning}
use Rattle.terms.specs.declared.cell.Cell.{Cell}
use Rattle.terms.specs.Terms.{arity, Leaves, Fine, Starts}
use Rattle.terms.specs.Proper.{SmallTerm}
use Rattle.terms.specs.Reading.{GoesOn, Stray, CellsRefused}
use Rattle.terms.specs.declared.fault.PatternFault.{PatternFault}
use Rattle.terms.specs.declared.fault.PatternFault.TheVariants.{Bank, Structure}
use Rattle.kinds.specs.declared.fault.BankFault.TheVariants.{Value as BadValue}
use Rattle.terms.proofs.Leaving.{leaves_append, leaves_split, leaves_one, leaves_few, leaves_cell, leaves_more}

-- the symbol that ends every term
abbrev nought : Cell
nought = record { letter = 83; number = 0 }

starts_append : (xs ys : List Cell) → Starts xs → Starts ys → Starts (xs ++ ys)
starts_append [] ys a b = b
starts_append (x ∷ xs) ys a b = a

starts_first : (cs : List Cell) (d : Cell) → 0 < length cs → Starts cs → (get_or cs 0 d).letter ≡ 83
starts_first [] d l s = absurd (omega arith)
starts_first (c ∷ cs) d l s = s

starts_more : (cs : List Cell) (i : ℕ) (d : Cell) → i < length cs → Starts (take i cs) → (i ≡ 0 → (get_or cs i d).letter ≡ 83) → Starts (take (i + 1) cs)
starts_more [] i d l s f = absurd (omega arith)
starts_more (c ∷ cs) zero d l s f = f refl
starts_more (c ∷ cs) (suc i) d l s f = subst Starts (ap (λ n. take n (c ∷ cs)) e) s
  where
    e : suc (i + 1) ≡ suc i + 1
    e = omega arith

module _ (sig : List ℕ) (zero_arity : get_or sig 0 0 ≡ 0) (M : Meaning) (v limit : ℕ) where
  ended : (n : ℕ) → Leaves sig n (replicate n nought) 0
  ended zero = refl
  ended (suc n) = subst (λ (a : ℕ). Leaves sig (a + n) (replicate n nought) 0) (sym zero_arity) (let e : 0 + n ≡ n = omega arith in subst (λ (k : ℕ). Leaves sig k (replicate n nought) 0) (sym e) (ended n))

  fine_nought : (n : ℕ) → AllByRecursion (Fine M v) (replicate n nought)
  fine_nought zero = tt
  fine_nought (suc n) = (omega arith, fine_nought n)

  starts_nought : (n : ℕ) → Starts (replicate n nought)
  starts_nought zero = tt
  starts_nought (suc n) = refl

  -- what the scan knows before place i
  pub record Before (cs : List Cell) (i to_come : ℕ) : Type 0 where
    pub reads : Leaves sig 1 (take i cs) to_come
    pub starts : Starts (take i cs)
    pub fine : AllByRecursion (Fine M v) (take i cs)
    pub room : i + to_come ≤ limit

  pub before_start : (cs : List Cell) → 1 ≤ limit → Before cs 0 1
  before_start cs l = record { reads = refl; starts = tt; fine = tt; room = omega arith }

  module _ (cs : List Cell) (i to_come : ℕ) (before : Before cs i to_come) where
    -- some proper cells agree up to here
    completes : i ≤ length cs → (ds : List Cell) × SmallTerm sig M v limit ds × (take i ds ≡ take i cs)
    completes l =
        let xs = take i cs in
        let ys = replicate to_come nought in
        let k = length-take-le i cs l in (
          xs ++ ys,
          record {
            term = record {
              whole = leaves_append sig 1 to_come 0 xs ys before.reads (ended to_come);
              starts = starts_append xs ys before.starts (starts_nought to_come);
              fine = All-append (Fine M v) xs ys before.fine (fine_nought to_come);
            };
            few = omega (arith, length-append xs ys, length-replicate {A = Cell} to_come nought, before.room);
          },
          take_at xs ys i k,
        )

    module _ (d : Cell) (here : i < length cs) where
      -- the cell at i goes on
      pub before_more : GoesOn sig M v limit (get_or cs i d) i to_come → Before cs (i + 1) (to_come - 1 + arity sig (get_or cs i d))
      before_more g = record {
        reads = leaves_more sig 1 to_come i cs d here g.wanted before.reads;
        starts = starts_more cs i d here before.starts g.starts;
        fine = All-more (Fine M v) cs i d here before.fine g.fine;
        room = g.room;
      }

      -- what proper cells that agree one further say of the cell at i
      agrees : (ds : List Cell) → SmallTerm sig M v limit ds → take (i + 1) ds ≡ take (i + 1) cs → GoesOn sig M v limit (get_or cs i d) i to_come
      agrees ds t e =
          let c = get_or cs i d in
          let at_i = agrees_at cs ds i here e in
          let l : i < length ds = at_i.0 in
          let same : get_or ds i d ≡ c = at_i.1 d in
          let whole : Leaves sig 1 (take (i + 1) cs ++ drop (i + 1) ds) 0 =
          subst (λ (xs : List Cell). Leaves sig 1 xs 0) (sym (take-append-drop (i + 1) ds) ∙ ap (λ xs. xs ++ drop (i + 1) ds) e) t.term.whole in
          let parts = leaves_split sig 1 0 (take (i + 1) cs) (drop (i + 1) ds) whole in
          let front : Leaves sig 1 (take i cs ++ c ∷ []) parts.0 = subst (λ (xs : List Cell). Leaves sig 1 xs parts.0) (take_more cs i d here) parts.1 in
          let step = leaves_split sig 1 parts.0 (take i cs) (c ∷ []) front in
          let open_then : step.0 ≡ to_come = leaves_one sig 1 step.0 to_come (take i cs) step.1 before.reads in
          let cell = leaves_cell sig step.0 parts.0 c step.2 in
          let rest = leaves_few sig parts.0 (drop (i + 1) ds) parts.2 in
          record {
            fine = subst (Fine M v) same (All-get_or (Fine M v) ds i d (omega arith) t.term.fine);
            wanted = omega (arith, open_then, cell.0);
            starts = λ z. ap (λ (x : Cell). x.letter) (sym same) ∙ ap (λ (k : ℕ). (get_or ds k d).letter) z ∙ starts_first ds d (omega arith) t.term.starts;
            room = omega (arith, open_then, cell.1, rest, length-drop (i + 1) ds, t.few);
          }

      -- the cell at i does not go on: it is the first fault
      pub fault_here : (GoesOn sig M v limit (get_or cs i d) i to_come → ⊥) → FirstFault (SmallTerm sig M v limit) cs i
      fault_here no_more = record {
        within = omega arith;
        before = completes (omega arith);
        here = λ ds t e. no_more (agrees ds t e);
      }

      -- so it is refused, with its own fault
      pub refused_here : (f : PatternFault) → (GoesOn sig M v limit (get_or cs i d) i to_come → ⊥)
          × (((f ≡ Bank (BadValue i)) × Stray M (get_or cs i d)) ⊎ ((f ≡ Structure i) × (Stray M (get_or cs i d) → ⊥)))
          → CellsRefused (SmallTerm sig M v limit) M cs f
      refused_here f r = record {
        place = i;
        first = fault_here r.0;
        fault = ⊎_map (λ b. (b.0, λ e. subst (Stray M) (get_or_default cs i d e here) b.1)) (λ b. (b.0, λ stray. b.1 (stray d))) r.1;
      }

  -- all cells are read and terms are still to come: the end is the first fault
  pub fault_end : (cs : List Cell) (i to_come : ℕ) → Before cs i to_come → i ≡ length cs → 0 < to_come → FirstFault (SmallTerm sig M v limit) cs (length cs)
  fault_end cs i to_come before e some =
      let b : Before cs (length cs) to_come = subst (λ (k : ℕ). Before cs k to_come) e before in
      let all : take (length cs) cs ≡ cs = take_all (length cs) cs (omega arith) in
      record {
        within = omega arith;
        before = completes cs (length cs) to_come b (omega arith);
        here = λ ds t q.
            let whole : take (length cs + 1) ds ≡ cs = q ∙ take_all (length cs + 1) cs (omega arith) in
            let l = ap length whole in
            let m = length-take (length cs + 1) ds in
            let same : ds ≡ cs = sym (take_all (length cs + 1) ds (omega arith)) ∙ whole in
            let z = leaves_one sig 1 to_come 0 cs (subst (λ (xs : List Cell). Leaves sig 1 xs to_come) all b.reads) (subst (λ (xs : List Cell). Leaves sig 1 xs 0) same t.term.whole) in
            omega arith;
      }

  pub refused_end : (cs : List Cell) (i to_come : ℕ) → Before cs i to_come → i ≡ length cs → 0 < to_come
      → CellsRefused (SmallTerm sig M v limit) M cs (Structure (length cs))
  refused_end cs i to_come before e some = record {
    place = length cs;
    first = fault_end cs i to_come before e some;
    fault = inr (refl, λ stray. (stray nought).no_symbol (ap (λ (c : Cell). c.letter) (get_or_past cs (length cs) nought (omega arith))));
  }

  -- all cells are read and none is to come: they are proper
  pub proper_end : (cs : List Cell) (i to_come : ℕ) → Before cs i to_come → i ≡ length cs → to_come ≡ 0 → SmallTerm sig M v limit cs
  proper_end cs i to_come before e z =
      let all : take i cs ≡ cs = take_all i cs (omega arith) in
      record {
        term = record {
          whole = subst (λ (k : ℕ). Leaves sig 1 cs k) z (subst (λ (xs : List Cell). Leaves sig 1 xs to_come) all before.reads);
          starts = subst Starts all before.starts;
          fine = subst (AllByRecursion (Fine M v)) all before.fine;
        };
        few = let r = before.room in omega arith;
      }
