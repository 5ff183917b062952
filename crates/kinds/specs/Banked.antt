-- A bank of two kinds keeps what every kind keeps.
use Rattle.std.specs.Prelude.{◌≡◌, ℕ, ◌≤◌, true, is_some, Some, None, Option, ◌≢◌, refl}
use Rattle.std.proofs.Common.{sym, ap, ◌∙◌}
use Rattle.std.proofs.lemmas.Bool.{false≢true}
use Rattle.kinds.specs.declared.condition.Condition.{Condition}
use Rattle.kinds.specs.Meaning.{Meaning, Under, Value, Sound}
use Rattle.kinds.specs.Banks.{or_else, unless_known, left_over, Part, both}

some_same : (x y : ℕ) → Some x ≡ Some y → x ≡ y
some_same x y e = cc

none_some : (y : ℕ) → None ≢ Some y
none_some y e = false≢true (ap is_some e)

module _ (M N : Meaning) (first : Sound M) (second : Sound N) where
  one_of : (o p : Option ℕ) (t : ℕ) → (o ≡ Some t → t ≤ 999999999) → (p ≡ Some t → t ≤ 999999999) → or_else o p ≡ Some t → t ≤ 999999999
  one_of (Some x) p t f g e = f e
  one_of None p t f g e = g e

  -- a letter with a top in either part has one in the bank
  has_first : (o p : Option ℕ) → is_some o ≡ true → is_some (or_else o p) ≡ true
  has_first (Some x) p h = refl
  has_first None p h = absurd (false≢true h)

  has_second : (o p : Option ℕ) → is_some p ≡ true → is_some (or_else o p) ≡ true
  has_second (Some x) p h = refl
  has_second None p h = h

  -- a letter left over is the second part's, and the first part has no top for it
  left_is : (o : Option ℕ) (l : ℕ) → left_over M.tops o ≡ Some l → (o ≡ Some l) × (M.tops l ≡ None)
  left_is None l e = absurd (none_some l e)
  left_is (Some x) l e = kept (M.tops x) refl e
    where
      kept : (t : Option ℕ) → M.tops x ≡ t → unless_known t x ≡ Some l → (Some x ≡ Some l) × (M.tops l ≡ None)
      kept (Some y) i k = absurd (none_some l k)
      kept None i k = (k, ap M.tops (sym (some_same x l k)) ∙ i)

  under_first : (o p : Option ℕ) (c : ℕ) → Under o c → Under (or_else o p) c
  under_first (Some t) p c u = u
  under_first None p c u = absurd u

  under_second : (o p : Option ℕ) (c : ℕ) → o ≡ None → Under p c → Under (or_else o p) c
  under_second None p c e u = u
  under_second (Some t) p c e u = absurd (none_some t (sym e))

  module _ (q : Condition) where
    belongs_either : (o p : Option ℕ) (l : ℕ) → (o ≡ Some l → is_some (M.tops l) ≡ true) → (p ≡ Some l → is_some (N.tops l) ≡ true)
        → or_else o p ≡ Some l → is_some (or_else (M.tops l) (N.tops l)) ≡ true
    belongs_either (Some x) p l f g e = has_first (M.tops l) (N.tops l) (f e)
    belongs_either None p l f g e = has_second (M.tops l) (N.tops l) (g e)

    known_either : (o p : Option ℕ) (P Q : Type 0) → Part o p P Q → is_some (or_else o p) ≡ true
    known_either (Some x) p P Q h = refl
    known_either None (Some x) P Q h = refl
    known_either None None P Q h = absurd h

    values_either : (o p : Option ℕ) (l c : ℕ) → (o ≡ Some l → M.holds q c → Value M l c)
        → (p ≡ Some l → N.holds q c → (M.tops l ≡ None) × Value N l c)
        → or_else o p ≡ Some l → Part o p (M.holds q c) (N.holds q c) → Value (both M N) l c
    values_either (Some x) p l c f g e h = under_first (M.tops l) (N.tops l) c (f e h)
    values_either None (Some x) l c f g e h = let u = g e h in under_second (M.tops l) (N.tops l) c u.0 u.1
    values_either None None l c f g e h = absurd h

  pub both_sound : Sound (both M N)
  both_sound = record {
    bounded = λ l t e. one_of (M.tops l) (N.tops l) t (first.bounded l t) (second.bounded l t) e;
    no_symbol = ap (λ o. or_else o (N.tops 83)) first.no_symbol ∙ second.no_symbol;
    no_variable = ap (λ o. or_else o (N.tops 86)) first.no_variable ∙ second.no_variable;
    belongs = λ q l e. belongs_either q (M.letters q) (left_over M.tops (N.letters q)) l (first.belongs q l)
        (λ k. second.belongs q l (left_is (N.letters q) l k).0) e;
    known = λ q c h. known_either q (M.letters q) (left_over M.tops (N.letters q)) (M.holds q c) (N.holds q c) h;
    values = λ q l c e h. values_either q (M.letters q) (left_over M.tops (N.letters q)) l c (first.values q l c)
        (λ k n. let i = left_is (N.letters q) l k in (i.1, second.values q l c i.0 n)) e h;
  }
