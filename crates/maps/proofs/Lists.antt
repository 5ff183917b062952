-- Members of lists: of two lists joined, mapped, filtered, and of a list without one of its entries.
use Rattle.std.proofs.Common.{◌≡◌, suc, Bool, true, false, cond, ◌⊎◌, List, [], ◌∷◌, ◌++◌, map, length, filter, sym, refl, ap, ◌∙◌, subst, ap₂, inl, inr, ⊎_elim}
use Rattle.std.proofs.lemmas.Bool.{both_ways}
use Rattle.maps.specs.Maps.{In, Once}

module _ {A : Type 0} where
  pub in_append : (xs ys : List A) (r : A) → In r (xs ++ ys) → In r xs ⊎ In r ys
  in_append [] ys r i = inr i
  in_append (x ∷ xs) ys r (inl e) = inl (inl e)
  in_append (x ∷ xs) ys r (inr i) = ⊎_elim (λ j. inl (inr j)) inr (in_append xs ys r i)

  pub append_left : (xs ys : List A) (r : A) → In r xs → In r (xs ++ ys)
  append_left [] ys r i = absurd i
  append_left (x ∷ xs) ys r (inl e) = inl e
  append_left (x ∷ xs) ys r (inr i) = inr (append_left xs ys r i)

  pub append_right : (xs ys : List A) (r : A) → In r ys → In r (xs ++ ys)
  append_right [] ys r i = i
  append_right (x ∷ xs) ys r i = inr (append_right xs ys r i)

  pub in_push : (l : List A) (b a : A) → In a (l ++ (b ∷ [])) → In a l ⊎ (a ≡ b)
  in_push l b a i = ⊎_elim inl (⊎_elim inr (λ x. absurd x)) (in_append l (b ∷ []) a i)

  pub push_old : (l : List A) (b a : A) → In a l → In a (l ++ (b ∷ []))
  push_old l b = append_left l (b ∷ [])

  pub push_new : (l : List A) (b a : A) → a ≡ b → In a (l ++ (b ∷ []))
  push_new l b a e = append_right l (b ∷ []) a (inl e)

  pub once_append : (xs ys : List A) → Once xs → Once ys → ((r : A) → In r xs → ¬ In r ys) → Once (xs ++ ys)
  once_append [] ys o o' d = o'
  once_append (x ∷ xs) ys o o' d =
      ((λ i. ⊎_elim o.0 (d x (inl refl)) (in_append xs ys x i)), once_append xs ys o.1 o' (λ r i. d r (inr i)))

  -- what a filter keeps
  module _ (q : A → Bool) where
    pub in_kept : (l : List A) (a : A) → In a (filter q l) → In a l × (q a ≡ true)
    in_kept [] a i = absurd i
    in_kept (b ∷ l) a i = go (q b) refl i (in_kept l a)
      where
        go : (x : Bool) → q b ≡ x → In a (cond x (b ∷ filter q l) (filter q l)) → (In a (filter q l) → In a l × (q a ≡ true))
            → In a (b ∷ l) × (q a ≡ true)
        go true e (inl z) ih = (inl z, ap q z ∙ e)
        go true e (inr y) ih = (inr (ih y).0, (ih y).1)
        go false e y ih = (inr (ih y).0, (ih y).1)

    pub kept_in : (l : List A) (a : A) → In a l → q a ≡ true → In a (filter q l)
    kept_in [] a i e = i
    kept_in (b ∷ l) a i e = go (q b) refl i (λ j. kept_in l a j e)
      where
        go : (x : Bool) → q b ≡ x → In a (b ∷ l) → (In a l → In a (filter q l)) → In a (cond x (b ∷ filter q l) (filter q l))
        go true f (inl z) ih = inl z
        go true f (inr y) ih = inr (ih y)
        go false f (inl z) ih = absurd (both_ways (q b) f (sym (ap q z) ∙ e))
        go false f (inr y) ih = ih y

  -- the list without the entry found
  unfoldable pub cut : (x : A) (l : List A) → In x l → List A
  cut x [] i = []
  cut x (y ∷ l) (inl e) = l
  cut x (y ∷ l) (inr i) = y ∷ cut x l i

  pub in_cut : (x : A) (l : List A) (i : In x l) (r : A) → In r (cut x l i) → In r l
  unfolding cut
  in_cut x [] i r c = absurd i
  in_cut x (y ∷ l) (inl e) r c = inr c
  in_cut x (y ∷ l) (inr i) r (inl q) = inl q
  in_cut x (y ∷ l) (inr i) r (inr c) = inr (in_cut x l i r c)

  pub cut_in : (x : A) (l : List A) (i : In x l) (r : A) → ¬ (r ≡ x) → In r l → In r (cut x l i)
  unfolding cut
  cut_in x [] i r ne j = absurd i
  cut_in x (y ∷ l) (inl e) r ne (inl q) = absurd (ne (q ∙ sym e))
  cut_in x (y ∷ l) (inl e) r ne (inr j) = j
  cut_in x (y ∷ l) (inr i) r ne (inl q) = inl q
  cut_in x (y ∷ l) (inr i) r ne (inr j) = inr (cut_in x l i r ne j)

  pub cut_gone : (x : A) (l : List A) (i : In x l) → Once l → ¬ In x (cut x l i)
  unfolding cut
  cut_gone x [] i o c = i
  cut_gone x (y ∷ l) (inl e) o c = o.0 (subst (λ z. In z l) e c)
  cut_gone x (y ∷ l) (inr i) o (inl q) = o.0 (subst (λ z. In z l) q i)
  cut_gone x (y ∷ l) (inr i) o (inr c) = cut_gone x l i o.1 c

  pub cut_once : (x : A) (l : List A) (i : In x l) → Once l → Once (cut x l i)
  unfolding cut
  cut_once x [] i o = tt
  cut_once x (y ∷ l) (inl e) o = o.1
  cut_once x (y ∷ l) (inr i) o = ((λ c. o.0 (in_cut x l i y c)), cut_once x l i o.1)

  pub cut_length : (x : A) (l : List A) (i : In x l) → length l ≡ suc (length (cut x l i))
  unfolding cut
  cut_length x [] i = absurd i
  cut_length x (y ∷ l) (inl e) = refl
  cut_length x (y ∷ l) (inr i) = ap suc (cut_length x l i)

module _ {A B : Type 0} (f : A → B) where
  pub in_map : (l : List A) (b : B) → In b (map f l) → (a : A) × In a l × (b ≡ f a)
  in_map [] b i = absurd i
  in_map (a ∷ l) b (inl e) = (a, inl refl, e)
  in_map (a ∷ l) b (inr i) = let x = in_map l b i in (x.0, inr x.1, x.2)

  pub map_in : (l : List A) (a : A) → In a l → In (f a) (map f l)
  map_in [] a i = i
  map_in (b ∷ l) a (inl e) = inl (ap f e)
  map_in (b ∷ l) a (inr i) = inr (map_in l a i)

  pub map_same : (g : A → B) (l : List A) → ((a : A) → In a l → f a ≡ g a) → map f l ≡ map g l
  map_same g [] e = refl
  map_same g (a ∷ l) e = ap₂ (λ x y. x ∷ y) (e a (inl refl)) (map_same g l (λ b i. e b (inr i)))

  pub map_kept : (p : B → Bool) (l : List A) → map f (filter (λ a. p (f a)) l) ≡ filter p (map f l)
  map_kept p [] = refl
  map_kept p (a ∷ l) = go (p (f a)) (map_kept p l)
    where
      go : (x : Bool) → map f (filter (λ a. p (f a)) l) ≡ filter p (map f l)
          → map f (cond x (a ∷ filter (λ a. p (f a)) l) (filter (λ a. p (f a)) l)) ≡ cond x (f a ∷ filter p (map f l)) (filter p (map f l))
      go true ih = ap (λ k. f a ∷ k) ih
      go false ih = ih
