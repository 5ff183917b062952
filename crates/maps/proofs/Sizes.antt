-- The size of a map, as rows are put and dropped.
use Rattle.std.proofs.Common.{◌≡◌, ℕ, ◌+◌, ◌↔◌, List, ◌∷◌, length, Some, None, Option, sym, refl, ap, ◌∙◌, subst, inl, inr, ⊎_elim, arith}
use mathlib.Core.Path.{fun_ext}
use mathlib.Core.Logic.{if_pos, if_neg, by_cases}
use Rattle.maps.specs.Maps.{In, Once, Map, Same, Has, Listed, Sized, with_row}
use Rattle.maps.specs.Sizes.{present}
use Rattle.maps.proofs.Lists.{cut, in_cut, cut_in, cut_gone, cut_once, cut_length}
use Rattle.maps.proofs.Figures.{same_members}

pub none_some : (k : ℕ) → ◌≡◌ {A = Option ℕ} None (Some k) → ⊥
none_some k e = let z : ◌≡◌ {A = ℕ} 0 1 = cc in omega arith

module _ {Row : Type 0} where
  pub of_listed : (rows : List Row) (m : Map Row) → Listed rows m → Sized m (length rows)
  of_listed rows m l = record { rows = rows; listed = l; counted = refl }

  pub sized_unique : (m : Map Row) (n k : ℕ) → Sized m n → Sized m k → n ≡ k
  sized_unique m n k s u =
      let a = s.listed in
      let b = u.listed in
      let e = same_members m s.rows u.rows a.once b.once (λ r i. (b.those r).1 ((a.those r).0 i)) (λ r i. (a.those r).1 ((b.those r).0 i)) in
      s.counted ∙ e.0 ∙ sym u.counted

  pub sized_same : (m m' : Map Row) (n : ℕ) → Same m' m → Sized m n → Sized m' n
  sized_same m m' n e s = subst (λ z. Sized z n) (sym (fun_ext e)) s

  -- the rows besides r
  record Others (m : Map Row) (r : Row) (n : ℕ) : Type 0 where
    rows : List Row
    once : Once rows
    those : (q : Row) → In q rows ↔ ((¬ (q ≡ r)) × Has m q)
    counted : n ≡ length rows + present (m r)

  others : (m : Map Row) (r : Row) (n : ℕ) → Sized m n → Others m r n
  others m r n s = go (m r) refl
    where
      go : (o : Option ℕ) → m r ≡ o → Others m r n
      go (Some k) e =
          let i : In r s.rows = (s.listed.those r).1 (k, e) in
          record {
            rows = cut r s.rows i;
            once = cut_once r s.rows i s.listed.once;
            those = λ q. (
              (λ c. ((λ z. cut_gone r s.rows i s.listed.once (subst (λ x. In x (cut r s.rows i)) z c)), (s.listed.those q).0 (in_cut r s.rows i q c))),
              (λ y. cut_in r s.rows i q y.0 ((s.listed.those q).1 y.1)),
            );
            counted = let l = cut_length r s.rows i in let b : present (m r) ≡ 1 = ap present e in omega (arith, s.counted, l, b);
          }
      go None e = record {
        rows = s.rows;
        once = s.listed.once;
        those = λ q. (
          (λ i. let y = (s.listed.those q).0 i in ((λ z. none_some y.0 (sym e ∙ ap m (sym z) ∙ y.1)), y)),
          (λ y. (s.listed.those q).1 y.1),
        );
        counted = let b : present (m r) ≡ 0 = ap present e in omega (arith, s.counted, b);
      }

module _ {Row : Type 0} (same : (r s : Row) → Dec (r ≡ s)) where
  -- one row more, one less, or as many: put and drop alike
  pub sized_row : (m : Map Row) (n : ℕ) (r : Row) (v : Option ℕ) → Sized m n
      → (n' : ℕ) × Sized (with_row same m r v) n' × (n' + present (m r) ≡ n + present v)
  sized_row m n r v s = go v (others m r n s)
    where
      go : (v : Option ℕ) → Others m r n → (n' : ℕ) × Sized (with_row same m r v) n' × (n' + present (m r) ≡ n + present v)
      go (Some j) o = (
        length o.rows + 1,
        record {
          rows = r ∷ o.rows;
          listed = record {
            once = ((λ i. ((o.those r).0 i).0 refl), o.once);
            those = λ q. (
              ⊎_elim (λ e. (j, if_pos (same q r) e (Some j) (m q)))
                  (λ i. let y = (o.those q).0 i in (y.1.0, if_neg (same q r) y.0 (Some j) (m q) ∙ y.1.1)),
              (λ y. by_cases (same q r) inl (λ ne. inr ((o.those q).1 (ne, (y.0, sym (if_neg (same q r) ne (Some j) (m q)) ∙ y.1))))),
            );
          };
          counted = omega arith;
        },
        (let c = o.counted in omega arith),
      )
      go None o = (
        length o.rows,
        record {
          rows = o.rows;
          listed = record {
            once = o.once;
            those = λ q. (
              (λ i. let y = (o.those q).0 i in (y.1.0, if_neg (same q r) y.0 None (m q) ∙ y.1.1)),
              (λ y. by_cases (same q r) (λ e. absurd (none_some y.0 (sym (if_pos (same q r) e None (m q)) ∙ y.1)))
                  (λ ne. (o.those q).1 (ne, (y.0, sym (if_neg (same q r) ne None (m q)) ∙ y.1)))),
            );
          };
          counted = refl;
        },
        (let c = o.counted in omega arith),
      )
