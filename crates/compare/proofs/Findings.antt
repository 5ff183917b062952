-- What the comparison of two patterns on a sheet says of the rows that fit them.
use Rattle.std.proofs.Common.{◌≡◌, ℕ, ◌-◌, ◌<◌, ◌≤◌, false, List, map, length, replicate, Some, None, Option, sym, ap, ◌∙◌, subst, subst₂, arith, MatchOption}
use Rattle.std.specs.List.{AllByRecursion}
use Rattle.std.proofs.ByRecursion.{All-get_or}
use Rattle.std.proofs.lemmas.List.{length-append, length-map}
use Rattle.lists.specs.Lists.{items}
use Rattle.kinds.specs.Meaning.{Meaning}
use Rattle.terms.specs.declared.cell.Cell.{Cell}
use Rattle.terms.specs.declared.constraint.Constraint.{Constraint}
use Rattle.terms.specs.Terms.{Fine, Subst, apply}
use Rattle.terms.specs.Fitting.{Description, Satisfies, Fits}
use Rattle.terms.specs.Proper.{ProperPattern}
use Rattle.unification.specs.Fronts.{part}
use Rattle.unification.specs.Unifiers.{MostGeneral, sequence}
use Rattle.unification.specs.Sheets.{Good, Blank, Sol, Merged, Clash}
use Rattle.unification.specs.Orders.{Ordered}
use Rattle.unification.specs.Pairs.{shifted, shifted_constraint, pair, both_constraints, Overlap}
use Rattle.unification.specs.Shares.{Shared, LeastChoice}
use Rattle.unification.proofs.Theory.{apply_comp, apply_ext}
use Rattle.unification.proofs.Pairs.{Usable, usable, good, inside_left, levels, unlevels, blank_sol, clashed, found, part_left, pair_fine, pair_named}
use Rattle.unification.proofs.Fitting.{shared, fits_left, fits_right}
use Rattle.compare.specs.declared.join.Joint.{Joint}
use Rattle.compare.specs.declared.sample.Common.{Common}
use Rattle.compare.specs.declared.sample.Sample.{Sample}
use Rattle.compare.specs.Bindings.{WithinPatterns, replacements, unifier}
use Rattle.compare.specs.Joints.{Joined}
use Rattle.compare.specs.Roots.{constraint_at}
use Rattle.compare.specs.Answers.{Shows, Sampled, CommonPart, Unsampled, Drawn}

-- the cells are those of the two patterns, n of them the left one's
pub record Both (sig : List ℕ) (M : Meaning) (left right : Description) (cells : List Cell) (n : ℕ) : Type 0 where
  pub left_proper : ProperPattern sig M left
  pub right_proper : ProperPattern sig M right
  pub is : cells ≡ pair left.cells right.cells
  pub at_n : n ≡ length left.cells

pub both : {sig : List ℕ} {M : Meaning} {left right : Description} {j : Joint} {cells : List Cell} → ProperPattern sig M left → ProperPattern sig M right → Joined left right j → cells ≡ items j.cells
    → Both sig M left right cells j.left
both a b j e = record { left_proper = a; right_proper = b; is = e ∙ j.cells; at_n = j.left_cells }

module _ {sig : List ℕ} {M : Meaning} {left right : Description} {cells : List Cell} {n : ℕ} (two : Both sig M left right cells n) where
  use_left : Usable sig left.cells
  use_left = usable sig M left.cells two.left_proper.cells

  use_right : Usable sig right.cells
  use_right = usable sig M right.cells two.right_proper.cells

  pub good_both : Good sig cells
  good_both = good sig left.cells right.cells cells use_left use_right two.is

  pub fine_both : AllByRecursion (Fine M 16) cells
  fine_both = subst (AllByRecursion (Fine M 16)) (sym two.is) (pair_fine M left.cells right.cells two.left_proper.cells.term.fine two.right_proper.cells.term.fine)

  pub some_cells : 0 < length cells
  some_cells = inside_left sig left.cells right.cells cells use_left use_right two.is

  -- what is left of the cells is the right pattern's
  right_cells : length cells - n ≡ length right.cells
  right_cells =
      let e = ap length two.is ∙ length-append left.cells (map shifted right.cells) in
      omega (arith, e, length-map right.cells shifted, two.at_n)

  choice_for : Overlap sig M left right → (σ : Subst) × Shared sig M left right σ
  choice_for o = let s = shared sig M left right use_left.small two.left_proper.constraints.each o.0 o.1 o.2 in (s.0, s.1)

  pub no_clash : (sheet : List Cell) → Blank sheet → Clash sig cells sheet 0 n 1 (replicate 16 false) → Overlap sig M left right → ⊥
  no_clash sheet k c o =
      let s = choice_for o in
      clashed sig left.cells right.cells cells use_left use_right two.is sheet k (subst (λ (m : ℕ). Clash sig cells sheet 0 m 1 (replicate 16 false)) two.at_n c)
      s.0 (λ x. (s.1.ground x).0) s.1.unifies

  module _ {ks : List Constraint} (ki : ks ≡ both_constraints left.constraints right.constraints) where
    pub few_both : length ks ≤ 16
    few_both =
        let e = ap length ki ∙ length-append left.constraints (map shifted_constraint right.constraints) in
        omega (arith, e, length-map right.constraints shifted_constraint, two.left_proper.constraints.few, two.right_proper.constraints.few)

    pub named_both : (k : ℕ) → k < length ks → (constraint_at ks k).variable < 16
    named_both k l =
        All-get_or (λ k. k.variable < 16) ks k (record { variable = 0; condition = record { form = 0; a = 0; b = 0 } }) l
        (subst (AllByRecursion (λ k. k.variable < 16)) (sym ki) (pair_named M left.constraints right.constraints two.left_proper.constraints.each two.right_proper.constraints.each))

    module _ {before behind : List Cell} (blank_before : Blank before) (merged : Merged sig cells before behind 0 n 1) where
      merged_here : Merged sig cells before behind 0 (length left.cells) 1
      merged_here = subst (λ (m : ℕ). Merged sig cells before behind 0 m 1) two.at_n merged

      solves_here : (σ : Subst) → Shared sig M left right σ → Sol sig cells behind σ
      solves_here σ s =
          merged_here.full σ (λ x. (s.ground x).0) (blank_sol sig left.cells right.cells cells use_left use_right two.is before blank_before σ)
          (unlevels sig left.cells right.cells cells use_left use_right two.is σ s.unifies)

      shared_drawn : (μ : Subst) (s : Sample) → (d : Drawn sig M cells behind ks μ s) → Shared sig M left right d.choice
      shared_drawn μ s d = record {
        ground = d.ground;
        unifies = levels sig left.cells right.cells cells use_left use_right two.is d.choice (merged_here.sound d.choice (λ x. (d.ground x).0) d.solves).1;
        meets = subst (AllByRecursion (λ k. Satisfies M k.condition (d.choice k.variable))) ki d.meets;
      }

      sampled : (μ : Subst) (s : Sample) → Drawn sig M cells behind ks μ s → Sampled sig M left right μ s
      sampled μ s d = record {
        choice = d.choice;
        shared = shared_drawn μ s d;
        least = λ x l f. subst (λ qs. LeastChoice M μ qs x (d.choice x)) ki (d.least x l f);
        fits_left = fits_left sig M left right d.choice (shared_drawn μ s d);
        fits_right = fits_right sig M left right d.choice (shared_drawn μ s d);
        shows = subst (λ xs. Shows s (apply d.choice xs)) (ap (λ (cs : List Cell). part sig cs 0 1) two.is ∙ part_left sig left.cells right.cells use_left.term) d.shows;
      }

      every : (μ : Subst) → MostGeneral sig μ left.cells (map shifted right.cells) → (row : List Cell) → Fits sig M row left → Fits sig M row right
          → (σ : Subst) × Shared sig M left right σ × (row ≡ apply σ (apply μ left.cells))
      every μ m row f g =
          let s = shared sig M left right use_left.small two.left_proper.constraints.each row f g in
          let σ : Subst = s.0 in
          (σ, s.1, sym s.2 ∙ sym (apply_comp σ μ left.cells ∙ apply_ext (λ x. apply σ (μ x)) σ (m.general σ (λ x. (s.1.ground x).0) s.1.unifies) left.cells))

      pub told : (o : Option Common)
          → MatchOption o (Unsampled sig M cells behind ks) (λ c. Ordered sig cells behind (replacements sig cells n c.bindings) × AllByRecursion (WithinPatterns n (length cells - n)) c.bindings × Drawn sig M cells behind ks (sequence (replacements sig cells n c.bindings)) c.sample)
          → MatchOption o (Overlap sig M left right → ⊥) (λ c. CommonPart sig M left right c)
      told None h = λ o.
          let s = choice_for o in
          h s.0 (λ x. (s.1.ground x).0) (solves_here s.0 s.1) (subst (AllByRecursion (λ k. Satisfies M k.condition (s.0 k.variable))) (sym ki) s.1.meets)
      told (Some c) h =
          let u : sequence (replacements sig cells n c.bindings) ≡ unifier sig left right c.bindings =
          ap (λ (cs : List Cell). sequence (replacements sig cs n c.bindings)) two.is
          ∙ ap (λ (m : ℕ). sequence (replacements sig (pair left.cells right.cells) m c.bindings)) two.at_n in
          let general : MostGeneral sig (sequence (replacements sig cells n c.bindings)) left.cells (map shifted right.cells) =
          found sig left.cells right.cells cells use_left use_right two.is before behind (replacements sig cells n c.bindings) blank_before merged_here h.0 in
          let general_named : MostGeneral sig (unifier sig left right c.bindings) left.cells (map shifted right.cells) =
          subst (λ (μ : Subst). MostGeneral sig μ left.cells (map shifted right.cells)) u general in
          record {
            within = subst₂ (λ (k m : ℕ). AllByRecursion (WithinPatterns k m) c.bindings) two.at_n right_cells h.1;
            general = general_named;
            every = every (unifier sig left right c.bindings) general_named;
            sampled = sampled (unifier sig left right c.bindings) c.sample (subst (λ (μ : Subst). Drawn sig M cells behind ks μ c.sample) u h.2);
          }
