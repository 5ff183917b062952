-- What the loop over the calls keeps.
use Rattle.std.proofs.Common.{◌≡◌, ℕ, ◌+◌, ◌<◌, List, [], ◌∷◌, map, reverse, length, get_or, take, drop, set, Some, None, Option, sym, refl, ap, ◌∙◌, subst, ap₂, ⊎_elim, arith}
use mathlib.Core.List.{reverse-append}
use Rattle.std.proofs.lemmas.List.{take_more, take_more_set, drop_more, drop-set-lt}
use Rattle.kinds.specs.Meaning.{Meaning}
use Rattle.maps.specs.Maps.{Map}
use Rattle.terms.specs.declared.cell.Cell.{Cell}
use Rattle.terms.specs.Fitting.{Description}
use Rattle.compare.specs.declared.sample.Sample.{Sample}
use Rattle.serial.specs.History.{History, asked}
use Rattle.serial.specs.History as words
use Rattle.serial.proofs.Ties.{Kept, start, step, serial_of}
use Rattle.runs.specs.declared.call.Call.{Call}
use Rattle.runs.specs.declared.call.Answer.{Answer}
use Rattle.manager.specs.declared.memory.Memory.{Memory}
use Rattle.manager.specs.declared.state.Manager.{Manager}
use Rattle.ledger.specs.Words.{language, grant_of, pending_of}
use Rattle.manager.specs.Book.{Book, book_of, state_of, Fixed, Sizes, Well}
use Rattle.runs.specs.Calls.{Reply, asked_by, told, says}
use Rattle.runs.specs.Runs.{Exchange, Answered, Followed, Ran, present}
use Rattle.manager.specs.New.{Made}
use Rattle.manager.proofs.Sounds.{sound_fresh}
use Rattle.runs.proofs.Stepping.{goes}

-- one more at the end of what a loop has gone through
more : {A : Type 0} (xs : List A) (i : ℕ) (d : A) (es : List A) → i < length xs → es ≡ reverse (take i xs) → (get_or xs i d ∷ es) ≡ reverse (take (i + 1) xs)
more xs i d es l e = ap (λ k. get_or xs i d ∷ k) e ∙ sym (ap reverse (take_more xs i d l) ∙ reverse-append (take i xs) (get_or xs i d ∷ []))

more_set : {A : Type 0} (xs : List A) (i : ℕ) (a : A) (es : List A) → i < length xs → es ≡ reverse (take i xs) → (a ∷ es) ≡ reverse (take (i + 1) (set xs i a))
more_set xs i a es l e = ap (λ k. a ∷ k) e ∙ sym (ap reverse (take_more_set xs i a l) ∙ reverse-append (take i xs) (a ∷ []))

-- what lies past the next place stays
past_set : {A : Type 0} (xs ys : List A) (i : ℕ) (a d : A) → i < length xs → i < length ys → drop i xs ≡ drop i ys → drop (i + 1) (set xs i a) ≡ drop (i + 1) ys
past_set xs ys i a d l l' e =
    let lt : i < i + 1 = omega arith in
    drop-set-lt (i + 1) xs i a lt ∙ ap tail (sym (drop_more xs i d l) ∙ e ∙ drop_more ys i d l')
  where
    tail : {A : Type 0} → List A → List A
    tail [] = []
    tail (x ∷ l) = l

-- and what stands at the next place is as it was
here_same : {A : Type 0} (xs ys : List A) (i : ℕ) (d : A) → i < length xs → i < length ys → drop i xs ≡ drop i ys → get_or xs i d ≡ get_or ys i d
here_same xs ys i d l l' e = ap (head d) (sym (drop_more xs i d l) ∙ e ∙ drop_more ys i d l')
  where
    head : {A : Type 0} → A → List A → A
    head z [] = z
    head z (x ∷ l) = x

module _ {K : Type 0} (means : K → Meaning) (kind : K) (arities : List ℕ) (places : ℕ) (first : Map (List Cell)) (calls : List Call) (answers₀ : List Answer) (buffers₀ : List Sample) where
  pub record Going (answers : List Answer) (buffers : List Sample) (i : ℕ) (manager : Manager K) (x : Memory) (m : Map (List Cell)) : Type 0 where
    pub exchanges : List Exchange
    pub calls_are : map (λ e. e.call) exchanges ≡ reverse (take i calls)
    pub answers_are : map (λ e. e.answer) exchanges ≡ reverse (take i answers)
    pub before_are : map (λ e. e.before) exchanges ≡ reverse (take i buffers₀)
    pub after_are : map (λ e. e.after) exchanges ≡ reverse (take i buffers)
    pub answers_past : drop i answers ≡ drop i answers₀
    pub buffers_past : drop i buffers ≡ drop i buffers₀
    pub followed : Followed arities (means kind) places first exchanges (book_of manager x) m
    pub history : History (List Cell) Description
    pub asked_are : map asked history ≡ present (map (λ e. asked_by e.call) exchanges)
    pub told_are : map told history ≡ present (map (λ e. says e.answer) exchanges)
    pub kept : Kept (language arities (means kind)) first history (state_of (book_of manager x) m)
    pub well : Well means manager x
    pub lengths : Sizes x
    pub signature : manager.signature.arities ≡ arities
    pub values : manager.kind ≡ kind

  pub going_start : (manager : Manager K) (x : Memory) → Made kind arities x manager → Sizes x → Going answers₀ buffers₀ 0 manager x first
  going_start manager x made z = record {
    exchanges = [];
    calls_are = refl;
    answers_are = refl;
    before_are = refl;
    after_are = refl;
    answers_past = refl;
    buffers_past = refl;
    followed = (made.book, refl);
    history = [];
    asked_are = refl;
    told_are = refl;
    kept = start (language arities (means kind)) first (state_of (book_of manager x) first) (record {
      opens = ap (λ b. map (λ t. t.number) b.transactions) made.book;
      held = ap (λ b. map grant_of b.reservations) made.book;
      pending = ap (λ b. map pending_of b.changes) made.book;
      store = λ r. refl;
    });
    well = λ _. sound_fresh manager.signature.arities (means manager.kind) (book_of manager x) made.book;
    lengths = z;
    signature = made.signature;
    values = made.kind;
  }

  -- the history after one exchange more
  record Longer (b b' : Book) (m m' : Map (List Cell)) (h : History (List Cell) Description) (k : Option (words.Call (List Cell) Description)) (r : Option Reply) : Type 0 where
    history : History (List Cell) Description
    asked_are : map asked history ≡ present (k ∷ map Some (map asked h))
    told_are : map told history ≡ present (r ∷ map Some (map told h))
    kept : Kept (language arities (means kind)) first history (state_of b' m')

  pub going_next : (answers : List Answer) (buffers : List Sample) (i : ℕ) (manager manager' : Manager K) (x x' : Memory) (m m' : Map (List Cell)) (places' : ℕ) (d : Call) (s : Sample) (a : Answer) (s' : Sample)
      → i < length calls → i < length answers → i < length answers₀ → i < length buffers → i < length buffers₀ → Going answers buffers i manager x m
      → places' ≡ places → Answered manager.signature.arities (means manager.kind) places' (book_of manager x) (book_of manager' x') m m' (get_or buffers i s) s' (get_or calls i d) a
      → Well means manager' x' → Sizes x' → Fixed manager manager' → Going (set answers i a) (set buffers i s') (i + 1) manager' x' m'
  going_next answers buffers i manager manager' x x' m m' places' d s a s' lc la la₀ lb lb₀ g p h w z f =
      let c = get_or calls i d in
      let b = book_of manager x in
      let b' = book_of manager' x' in
      let e : get_or buffers i s ≡ get_or buffers₀ i s = here_same buffers buffers₀ i s lb lb₀ g.buffers_past in
      let h' : Answered arities (means kind) places b b' m m' (get_or buffers₀ i s) s' c a =
      subst (λ y. Answered arities (means kind) places b b' m m' y s' c a) e
      (subst (λ sig. Answered sig (means kind) places b b' m m' (get_or buffers i s) s' c a) g.signature
      (subst (λ k. Answered manager.signature.arities (means k) places b b' m m' (get_or buffers i s) s' c a) g.values
      (subst (λ n. Answered manager.signature.arities (means manager.kind) n b b' m m' (get_or buffers i s) s' c a) p h))) in
      let longer = ⊎_elim (untold b b' m m' g.history (asked_by c) (says a) g.kept) (told_on b b' m m' g.history (asked_by c) (says a) g.kept) (goes arities (means kind) places b b' m m' (get_or buffers₀ i s) s' c a h') in
      record {
        exchanges = record { call = c; answer = a; before = get_or buffers₀ i s; after = s' } ∷ g.exchanges;
        calls_are = more calls i d _ lc g.calls_are;
        answers_are = more_set answers i a _ la g.answers_are;
        before_are = more buffers₀ i s _ lb₀ g.before_are;
        after_are = more_set buffers i s' _ lb g.after_are;
        answers_past = past_set answers answers₀ i a a la la₀ g.answers_past;
        buffers_past = past_set buffers buffers₀ i s' s lb lb₀ g.buffers_past;
        followed = (b, m, g.followed, h');
        history = longer.history;
        asked_are = longer.asked_are ∙ present_more (asked_by c) _ _ g.asked_are;
        told_are = longer.told_are ∙ present_more (says a) _ _ g.told_are;
        kept = longer.kept;
        well = w;
        lengths = z;
        signature = ap (λ z. z.arities) f.signature ∙ g.signature;
        values = f.kind ∙ g.values;
      }
    where
      all_present : {A : Type 0} (l : List A) → present (map Some l) ≡ l
      all_present [] = refl
      all_present (y ∷ l) = ap (λ k. y ∷ k) (all_present l)

      present_more : {A : Type 0} (k : Option A) (l : List A) (l' : List (Option A)) → l ≡ present l' → present (k ∷ map Some l) ≡ present (k ∷ l')
      present_more (Some y) l l' q = ap (λ n. y ∷ n) (all_present l ∙ q)
      present_more None l l' q = all_present l ∙ q

      untold : (b b' : Book) (m m' : Map (List Cell)) (h : History (List Cell) Description) (k : Option (words.Call (List Cell) Description)) (r : Option Reply)
          → Kept (language arities (means kind)) first h (state_of b m) → (k ≡ None) × (r ≡ None) × (b' ≡ b) × (m' ≡ m) → Longer b b' m m' h k r
      untold b b' m m' h k r κ q = record {
        history = h;
        asked_are = sym (ap (λ y. present (y ∷ map Some (map asked h))) q.0 ∙ all_present (map asked h));
        told_are = sym (ap (λ y. present (y ∷ map Some (map told h))) q.1 ∙ all_present (map told h));
        kept = subst (λ y. Kept (language arities (means kind)) first h (state_of y m')) (sym q.2) (subst (λ y. Kept (language arities (means kind)) first h (state_of b y)) (sym q.3) κ);
      }

      told_on : (b b' : Book) (m m' : Map (List Cell)) (h : History (List Cell) Description) (k : Option (words.Call (List Cell) Description)) (r : Option Reply)
          → Kept (language arities (means kind)) first h (state_of b m)
          → ((c : words.Call (List Cell) Description) × (y : Reply) × (k ≡ Some c) × (r ≡ Some y) × Rattle.runs.proofs.Moved.Steps (language arities (means kind)) b b' m m' c y) → Longer b b' m m' h k r
      told_on b b' m m' h k r κ q = record {
        history = q.4.event ∷ h;
        asked_are = ap₂ (λ y l. y ∷ l) q.4.call (sym (all_present (map asked h))) ∙ sym (ap (λ y. present (y ∷ map Some (map asked h))) q.2);
        told_are = ap₂ (λ y l. y ∷ l) q.4.reply (sym (all_present (map told h))) ∙ sym (ap (λ y. present (y ∷ map Some (map told h))) q.3);
        kept = step (language arities (means kind)) first h (state_of b m) q.4.event (state_of b' m') κ q.4.moves;
      }

  pub going_ran : (answers : List Answer) (buffers : List Sample) (i : ℕ) (manager : Manager K) (x : Memory) (m : Map (List Cell)) → Going answers buffers i manager x m
      → Ran arities (means kind) places (take i calls) (take i answers) (take i buffers₀) (take i buffers) first m
  going_ran answers buffers i manager x m g = record {
    exchanges = g.exchanges;
    calls = g.calls_are;
    answers = g.answers_are;
    before = g.before_are;
    after = g.after_are;
    book = book_of manager x;
    followed = g.followed;
    history = g.history;
    asked_are = g.asked_are;
    told_are = g.told_are;
    serial = serial_of (language arities (means kind)) first g.history (state_of (book_of manager x) m) g.kept;
  }
