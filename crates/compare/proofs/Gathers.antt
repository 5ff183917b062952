-- The conditions on a class of variables.
use Rattle.std.proofs.Common.{◌≡◌, ℕ, zero, suc, ◌<◌, Bool, true, false, cond, List, [], ◌∷◌, map, length, filter, refl, subst, arith}
use Rattle.std.specs.List.{AllByRecursion}
use Rattle.kinds.specs.declared.condition.Condition.{Condition}
use Rattle.terms.specs.declared.constraint.Constraint.{Constraint}
use Rattle.compare.specs.Roots.{constraint_at}

abbrev condition_of : Constraint → Condition
condition_of k = k.condition

-- what holds of the conditions that a test keeps
module _ (P : Condition → Type 0) (t : Constraint → Bool) where
  kept_tail : (x : Constraint) (b : Bool) (ks : List Constraint) → AllByRecursion P (map condition_of (cond b (x ∷ ks) ks)) → AllByRecursion P (map condition_of ks)
  kept_tail x true ks h = h.1
  kept_tail x false ks h = h

  pub class_one : (ks : List Constraint) (k : ℕ) → k < length ks → t (constraint_at ks k) ≡ true → AllByRecursion P (map condition_of (filter t ks)) → P (constraint_at ks k).condition
  class_one [] k l e h = absurd (omega arith)
  class_one (x ∷ ks) zero l e h = (subst (λ (b : Bool). AllByRecursion P (map condition_of (cond b (x ∷ filter t ks) (filter t ks)))) e h).0
  class_one (x ∷ ks) (suc k) l e h = class_one ks k (omega arith) e (kept_tail x (t x) (filter t ks) h)

  kept_front : (x : Constraint) (b : Bool) (ks : List Constraint) → (b ≡ true → P x.condition) → AllByRecursion P (map condition_of ks) → AllByRecursion P (map condition_of (cond b (x ∷ ks) ks))
  kept_front x true ks f h = (f refl, h)
  kept_front x false ks f h = h

  pub class_all : (ks : List Constraint) → ((k : ℕ) → k < length ks → t (constraint_at ks k) ≡ true → P (constraint_at ks k).condition) → AllByRecursion P (map condition_of (filter t ks))
  class_all [] f = tt
  class_all (x ∷ ks) f = kept_front x (t x) (filter t ks) (f 0 (omega arith)) (class_all ks (λ k l. f (suc k) (omega arith)))
