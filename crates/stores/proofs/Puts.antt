-- From what is held to the map.
use Rattle.std.proofs.Common.{◌≡◌, ℕ, zero, suc, Bool, true, false, cond, not, List, [], ◌∷◌, length, is_some, IfSome, Some, None, Ok, Err, Option, Result, sym, refl, ap, ◌∙◌, inl, inr, arith}
use mathlib.Core.Logic.{ite, if_pos, if_neg, by_cases}
use Rattle.std.specs.Option.{option_map}
use Rattle.std.specs.List.{slice_get}
use Rattle.std.proofs.lemmas.Bool.{cond-true, cond-false, and_parts, not-true, both_ways}
use Rattle.maps.specs.Maps.{In}
use Rattle.terms.specs.declared.cell.Cell.{Cell}
use Rattle.stores.specs.declared.entry.Entry.{Entry}
use Rattle.stores.specs.declared.fault.StoreFault.{StoreFault}
use Rattle.terms.specs.Equality.{cells_eq}
use Rattle.terms.specs.Rows.{same_true, same_self, decided}
use Rattle.stores.specs.Means.{count_of, row_of, Put, Dropped}
use Rattle.stores.specs.Places.{Holding, row_in, rows_in, look, apart, Apart}
use Rattle.stores.specs.Maps.{in_look, rows_length}
use Rattle.stores.specs.Table.{holding_of}
use Rattle.stores.proofs.Writes.{PutList, DropList}

as_decided : (row q : List Cell) (v w : Option ℕ) → cond (cells_eq row q) v w ≡ ite (decided q row) v w
as_decided row q v w = by_cases (decided q row)
    (λ e. cond-true (cells_eq row q) v w (ap (cells_eq row) e ∙ same_self row) ∙ sym (if_pos (decided q row) e v w))
    (λ ne. cond-false (cells_eq row q) v w (different (cells_eq row q) refl ne) ∙ sym (if_neg (decided q row) ne v w))
  where
    different : (b : Bool) → cells_eq row q ≡ b → ¬ (q ≡ row) → b ≡ false
    different true e ne = absurd (ne (sym (same_true row q e)))
    different false e ne = refl

pub put_means : (es fs : List Holding) (places : ℕ) (row : List Cell) (count : ℕ) (r : Result (Unit {0}) StoreFault)
    → PutList es fs places row count r → Put (look es) (look fs) (length (rows_in es)) places row count r
put_means es fs places row count (Ok u) p =
    ((λ q. p.1 q ∙ as_decided row q (Some count) (look es q)), λ e. let l = p.0 e in omega (arith, rows_length es, l))
put_means es fs places row count (Err f) p = (p.0, (λ q. ap (λ z. look z q) p.3), p.1, rows_length es ∙ p.2)

pub drop_means : (es fs : List Holding) (row : List Cell) (r : Bool) → DropList es fs row r → Dropped (look es) (look fs) row r
drop_means es fs row r p = ((λ q. p.1 q ∙ as_decided row q None (look es q)), p.0)

-- row number k
nth_rows : (es : List Holding) (k : ℕ) → option_map row_in (slice_get es k) ≡ slice_get (rows_in es) k
nth_rows [] k = refl
nth_rows (e ∷ es) zero = refl
nth_rows (e ∷ es) (suc k) = nth_rows es k

pub row_rows : (es : List Holding) (k : ℕ) (r : Option Entry) → option_map holding_of r ≡ slice_get es k → option_map row_of r ≡ slice_get (rows_in es) k
row_rows es k r e = twice r ∙ ap (option_map row_in) e ∙ nth_rows es k
  where
    twice : (r : Option Entry) → option_map row_of r ≡ option_map row_in (option_map holding_of r)
    twice (Some f) = refl
    twice None = refl

nth_in : (es : List Holding) (k : ℕ) (e : Holding) → Some e ≡ slice_get es k → In e.0 (rows_in es)
nth_in [] k e z = absurd (let z : ◌≡◌ {A = ℕ} 0 1 = cc in omega arith)
nth_in (x ∷ es) zero e z = inl (ap row_in (let y : e ≡ x = cc in y))
nth_in (x ∷ es) (suc k) e z = inr (nth_in es k e z)

nth_look : (es : List Holding) → Apart es → (k : ℕ) (e : Holding) → Some e ≡ slice_get es k → look es e.0 ≡ Some e.1
nth_look [] a k e z = absurd (let z : ◌≡◌ {A = ℕ} 0 1 = cc in omega arith)
nth_look (x ∷ es) a zero e z = let y : e ≡ x = cc in ap (λ w. look (x ∷ es) w.0) y ∙ cond-true (cells_eq x.0 x.0) _ _ (same_self x.0) ∙ ap (λ w. Some w.1) (sym y)
nth_look (x ∷ es) a (suc k) e z =
    let p = and_parts (not (is_some (look es x.0))) (apart es) a in
    cond-false (cells_eq x.0 e.0) _ _ (apart_from (cells_eq x.0 e.0) refl p.0) ∙ nth_look es p.1 k e z
  where
    apart_from : (b : Bool) → cells_eq x.0 e.0 ≡ b → not (is_some (look es x.0)) ≡ true → b ≡ false
    apart_from true t n =
        let y = in_look es e.0 (nth_in es k e z) in
        absurd (both_ways (is_some (look es x.0)) (not-true _ n) (ap (λ w. is_some (look es w)) (same_true x.0 e.0 t) ∙ ap is_some y.1))
    apart_from false t n = refl

pub row_look : (es : List Holding) → Apart es → (k : ℕ) (r : Option Entry) → option_map holding_of r ≡ slice_get es k → IfSome r (λ f. look es (row_of f) ≡ Some (count_of f.count))
row_look es a k (Some f) e = nth_look es a k (holding_of f) e
row_look es a k None e = tt
