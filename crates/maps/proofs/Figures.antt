-- A survey's figures: they depend only on the rows that fit, they are one pair of numbers, and they add up row by row and part by part.
use Rattle.std.proofs.Common.{◌≡◌, ℕ, suc, ◌+◌, ◌⊎◌, ◌↔◌, List, [], ◌∷◌, ◌++◌, length, Some, sym, refl, ap, ◌∙◌, subst, ap₂, inl, inr, ⊎_elim, arith, length-append}
use Rattle.maps.specs.Maps.{In, Once, Map, Has, count_of, total_of, Figures}
use Rattle.maps.proofs.Lists.{in_append, append_left, append_right, once_append, cut, in_cut, cut_in, cut_gone, cut_once, cut_length}

module _ {Row : Type 0} where
  total_same : (m n : Map Row) (rs : List Row) → ((r : Row) → In r rs → m r ≡ n r) → total_of m rs ≡ total_of n rs
  total_same m n [] f = refl
  total_same m n (r ∷ rs) f = ap₂ (λ a b. count_of a + b) (f r (inl refl)) (total_same m n rs (λ r' i. f r' (inr i)))

  total_append : (m : Map Row) (xs ys : List Row) → total_of m (xs ++ ys) ≡ total_of m xs + total_of m ys
  total_append m [] ys = omega arith
  total_append m (x ∷ xs) ys = let ih = total_append m xs ys in omega arith

  cut_total : (m : Map Row) (x : Row) (l : List Row) (i : In x l) → total_of m l ≡ count_of (m x) + total_of m (cut x l i)
  unfolding cut
  cut_total m x [] i = absurd i
  cut_total m x (y ∷ l) (inl e) = ap (λ z. count_of (m z) + total_of m l) (sym e)
  cut_total m x (y ∷ l) (inr i) = let ih = cut_total m x l i in omega arith

  -- two lists with the same members, none twice, have the same length and total
  pub same_members : (m : Map Row) (xs ys : List Row) → Once xs → Once ys → ((r : Row) → In r xs → In r ys) → ((r : Row) → In r ys → In r xs)
      → (length xs ≡ length ys) × (total_of m xs ≡ total_of m ys)
  same_members m [] [] o o' f b = (refl, refl)
  same_members m [] (y ∷ ys) o o' f b = absurd (b y (inl refl))
  same_members m (x ∷ xs) ys o o' f b =
      let i : In x ys = f x (inl refl) in
      let ih : (length xs ≡ length (cut x ys i)) × (total_of m xs ≡ total_of m (cut x ys i)) =
      same_members m xs (cut x ys i) o.1 (cut_once x ys i o')
      (λ r j. cut_in x ys i r (λ e. o.0 (subst (λ z. In z xs) e j)) (f r (inr j)))
      (λ r c. ⊎_elim (λ e. absurd (cut_gone x ys i o' (subst (λ z. In z (cut x ys i)) e c))) (λ j. j) (b r (in_cut x ys i r c))) in
      (ap suc ih.0 ∙ sym (cut_length x ys i), ap (λ k. count_of (m x) + k) ih.1 ∙ sym (cut_total m x ys i))

  pub figures_unique : (fits : Row → Type 0) (m : Map Row) (c k c' k' : ℕ) → Figures fits m c k → Figures fits m c' k' → (c ≡ c') × (k ≡ k')
  figures_unique fits m c k c' k' x y =
      let e = same_members m x.rows y.rows x.once y.once (λ r i. (y.those r).1 ((x.those r).0 i)) (λ r i. (x.those r).1 ((y.those r).0 i)) in
      (x.counted ∙ e.0 ∙ sym y.counted, x.added ∙ e.1 ∙ sym y.added)

  -- figures depend only on what the map has at the rows that fit
  pub figures_same : (fits : Row → Type 0) (m n : Map Row) (c k : ℕ) → ((r : Row) → fits r → m r ≡ n r) → Figures fits m c k → Figures fits n c k
  figures_same fits m n c k f x = record {
    rows = x.rows;
    once = x.once;
    those = λ r. (
      (λ i. let y = (x.those r).0 i in (y.0, (y.1.0, sym (f r y.0) ∙ y.1.1))),
      (λ y. (x.those r).1 (y.0, (y.1.0, f r y.0 ∙ y.1.1))),
    );
    counted = x.counted;
    added = x.added ∙ total_same m n x.rows (λ r i. f r ((x.those r).0 i).0);
  }

  pub figures_by : (fits fits' : Row → Type 0) (m : Map Row) (c k : ℕ) → ((r : Row) → Has m r → fits r ↔ fits' r) → Figures fits m c k → Figures fits' m c k
  figures_by fits fits' m c k f x = record {
    rows = x.rows;
    once = x.once;
    those = λ r. ((λ i. let y = (x.those r).0 i in ((f r y.1).0 y.0, y.1)), (λ y. (x.those r).1 ((f r y.1).1 y.0, y.1)));
    counted = x.counted;
    added = x.added;
  }

  pub figures_none : (fits : Row → Type 0) (m : Map Row) → ((r : Row) → fits r → ¬ Has m r) → Figures fits m 0 0
  figures_none fits m f = record
      { rows = []; once = tt; those = λ r. ((λ i. absurd i), (λ y. f r y.0 y.1)); counted = refl; added = refl }

  -- one more row with a count
  pub figures_row : (fits : Row → Type 0) (m : Map Row) (r : Row) (k : ℕ) → m r ≡ Some k → (c t : ℕ) → ¬ fits r
      → Figures fits m c t → Figures (λ q. fits q ⊎ (q ≡ r)) m (c + 1) (t + k)
  figures_row fits m r k e c t new x = record {
    rows = r ∷ x.rows;
    once = ((λ i. new ((x.those r).0 i).0), x.once);
    those = λ q. (
      ⊎_elim (λ z. (inr z, (k, ap m z ∙ e))) (λ i. let y = (x.those q).0 i in (inl y.0, y.1)),
      (λ y. ⊎_elim (λ f. inr ((x.those q).1 (f, y.1))) inl y.0),
    );
    counted = let z = x.counted in omega arith;
    added = let z = x.added in let w : count_of (m r) ≡ k = ap count_of e in omega arith;
  }

  -- two parts that no row is in both of
  pub figures_join : (fits fits' : Row → Type 0) (m : Map Row) (c t c' t' : ℕ) → ((r : Row) → fits r → ¬ fits' r)
      → Figures fits m c t → Figures fits' m c' t' → Figures (λ r. fits r ⊎ fits' r) m (c + c') (t + t')
  figures_join fits fits' m c t c' t' apart x y = record {
    rows = x.rows ++ y.rows;
    once = once_append x.rows y.rows x.once y.once (λ r i j. apart r ((x.those r).0 i).0 ((y.those r).0 j).0);
    those = λ r. (
      (λ i. ⊎_elim (λ j. let z = (x.those r).0 j in (inl z.0, z.1)) (λ j. let z = (y.those r).0 j in (inr z.0, z.1)) (in_append x.rows y.rows r i)),
      (λ z. ⊎_elim
          (λ f. append_left x.rows y.rows r ((x.those r).1 (f, z.1)))
          (λ f. append_right x.rows y.rows r ((y.those r).1 (f, z.1))) z.0),
    );
    counted = ap₂ ◌+◌ x.counted y.counted ∙ sym (length-append x.rows y.rows);
    added = ap₂ ◌+◌ x.added y.added ∙ sym (total_append m x.rows y.rows);
  }
