-- Checks in two parts, one list after another.
use Rattle.std.proofs.Common.{Ok, Err, Result, List, [], ◌∷◌, ◌++◌, inl, inr, ⊎_elim}
use Rattle.manager.specs.declared.fault.ManagerFault.{ManagerFault}
use Rattle.manager.specs.Checks.{Answers, Check, Passed, Refused}

pub passed_both : (cs ds : List Check) → Passed cs → Passed ds → Passed (cs ++ ds)
passed_both [] ds p q = q
passed_both (c ∷ cs) ds p q = (p.0, passed_both cs ds p.1 q)

-- what the first part refuses
pub refused_early : (cs ds : List Check) (f : ManagerFault) → Refused cs f → Refused (cs ++ ds) f
refused_early [] ds f r = absurd r
refused_early (c ∷ cs) ds f r = ⊎_elim (λ a. inl a) (λ b. inr (b.0, refused_early cs ds f b.1)) r

-- what the second part refuses
pub refused_late : (cs ds : List Check) (f : ManagerFault) → Passed cs → Refused ds f → Refused (cs ++ ds) f
refused_late [] ds f p r = r
refused_late (c ∷ cs) ds f p r = inr (p.0, refused_late cs ds f p.1 r)

-- what is answered once the first part has passed
pub answers_after : {A : Type 0} (cs ds : List Check) (G : A → Type 0) (S : ManagerFault → Type 0) (r : Result A ManagerFault) → Passed cs → Answers ds G S r → Answers (cs ++ ds) G S r
answers_after cs ds G S (Ok a) p q = (passed_both cs ds p q.0, q.1)
answers_after cs ds G S (Err f) p q = (refused_late cs ds f p q.0, q.1)
