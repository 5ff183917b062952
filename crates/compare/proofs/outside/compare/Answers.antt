use Rattle.std.proofs.Common.{◌≡◌, ℕ, List, subst, rules}
use Rattle.kinds.specs.Meaning.{Meaning}
use Rattle.terms.specs.Fitting.{Description, described}
use Rattle.terms.specs.Proper.{Arities, ProperPattern}
use Rattle.compare.specs.declared.sample.Common.{Common}
use Rattle.compare.specs.Answers.{CommonPart}
use Rattle.compare.specs.Outside.{Accepted}
use Rattle.compare.proofs.outside.compare.Goals as goal

-- from what was read to what was written
written : (sig ns : List ℕ) (M : Meaning) (l left r right : Description) (a : Common) → sig ≡ ns → l ≡ left → r ≡ right → Arities ns
    → ProperPattern sig M l → ProperPattern sig M r → CommonPart sig M l r a → Accepted ns M left right × CommonPart ns M left right a
written sig ns M l left r right a e f g n p q h =
    let P : List ℕ → Description → Description → Type 0 = λ s x y. ProperPattern s M x × ProperPattern s M y × CommonPart s M x y a in
    let t : P ns left right = subst (λ (s : List ℕ). P s left right) e (subst (λ (x : Description). P sig x right) f (subst (λ (y : Description). P sig l y) g (p, q, h))) in
    (record { arities = n; left_proper = t.0; right_proper = t.1 }, t.2)

pub returns : goal.returns
returns g c =
    let s = c.in_ok-signature.ensures in
    let l = c.in_ok-first.ensures in
    let r = c.in_ok-second.ensures in
    record {
      answer = written c.in_ok-signature.signature.arities c.args.arities.now (g.K.Kind.means c.args.kind.now)
          (described c.in_ok-first.first) (record { cells = c.args.left.cells.now; constraints = c.args.left.constraints.now })
          (described c.in_ok-second.second) (record { cells = c.args.right.cells.now; constraints = c.args.right.constraints.now })
          c.in-Some.common s.0 l.0 r.0 s.1 l.1 r.1 c.in-Some.ensures.answer;
      blank = search rules;
    }
