-- What the split of a sheet into its lines keeps from line to line.
use Rattle.std.proofs.Common.{◌≡◌, ℕ, ◌+◌, ◌<◌, ◌≤◌, Bool, true, false, eqb, List, [], ◌∷◌, ◌++◌, length, get_or, take, drop, Some, None, sym, ap, ◌∙◌, ⊎_elim, append_assoc, arith}
use Rattle.std.specs.List.{flat_map, AllByRecursion, position, position_or_len}
use Rattle.std.proofs.lemmas.List.{flat_map_more, drop_more, take-append-drop, get_or-take, length-take-le}
use Rattle.std.proofs.lemmas.List.Quantifiers.{position-Some}
use Rattle.std.proofs.lemmas.Bool.{cases_eq, cases_lt, eq-eqb, ne_eqb, eqb-true, eqb-false, lt-ltb}
use Rattle.std.proofs.ByRecursion.{All-push, All-from_get_or}
use Rattle.sheets.specs.Lines.{Unbroken, LinesOf}

-- the lines so far and what is left of the sheet
pub record Splitting (input : List ℕ) (ended : List (List ℕ)) (rest : List ℕ) : Type 0 where
  pub joins : input ≡ flat_map (λ line. line ++ (10 ∷ [])) ended ++ rest
  pub lines : AllByRecursion Unbroken ended

abbrev newline : ℕ → Bool
newline b = eqb b 10

module _ (input : List ℕ) (ended : List (List ℕ)) (rest : List ℕ) (s : Splitting input ended rest) where
  -- a line more
  pub broken : (i : ℕ) → position newline rest ≡ Some i → Splitting input (ended ++ (take i rest ∷ [])) (drop (i + 1) rest)
  broken i e =
      let p = position-Some newline rest i 0 e in
      let at : get_or rest i 0 ≡ 10 = eqb-true (get_or rest i 0) 10 p.1 in
      let cut : rest ≡ take i rest ++ (10 ∷ drop (i + 1) rest) =
      sym (take-append-drop i rest) ∙ ap (λ t. take i rest ++ t) (drop_more rest i 0 p.0 ∙ ap (λ b. b ∷ drop (i + 1) rest) at) in
      record {
        joins = s.joins
            ∙ ap (λ t. flat_map (λ line. line ++ (10 ∷ [])) ended ++ t) (cut ∙ sym (append_assoc (take i rest) (10 ∷ []) (drop (i + 1) rest)))
            ∙ sym (append_assoc (flat_map (λ line. line ++ (10 ∷ [])) ended) (take i rest ++ (10 ∷ [])) (drop (i + 1) rest))
            ∙ ap (λ t. t ++ drop (i + 1) rest) (flat_map_more (λ line. line ++ (10 ∷ [])) [] ended (take i rest));
        lines = All-push Unbroken ended (take i rest) s.lines (All-from_get_or (λ b. b ≡ 10 → ⊥) (take i rest) 0 each);
      }
    where
      each : (k : ℕ) → k < length (take i rest) → get_or (take i rest) k 0 ≡ 10 → ⊥
      each k h n =
          let p = position-Some newline rest i 0 e in
          let l = length-take-le i rest (omega arith) in
          eqb-false (get_or rest k 0) 10 (p.2 k (omega arith)) (sym (get_or-take i rest k 0 (omega arith)) ∙ n)

-- a rest without a newline
unbroken : (rest : List ℕ) → length rest ≤ position_or_len newline rest → Unbroken rest
unbroken [] h = tt
unbroken (b ∷ rest) h =
    ⊎_elim (λ e. absurd (first (eq-eqb b 10 e) h)) (λ n. (n, unbroken rest (later (ne_eqb b 10 n) h))) (cases_eq b 10)
  where
    first : newline b ≡ true → length (b ∷ rest) ≤ position_or_len newline (b ∷ rest) → ⊥
    first e l = let m = rw e at l in omega arith

    later : newline b ≡ false → length (b ∷ rest) ≤ position_or_len newline (b ∷ rest) → length rest ≤ position_or_len newline rest
    later e l = let m = rw e at l in omega arith

some : (n : ℕ) → Some n ≡ None → ⊥
some n e = cc

pub last : (input : List ℕ) (ended : List (List ℕ)) (rest : List ℕ) → Splitting input ended rest → position newline rest ≡ None → LinesOf input ended rest
last input ended rest s e = record {
  joins = s.joins;
  lines = s.lines;
  last = unbroken rest (⊎_elim (λ l. let t = lt-ltb (position_or_len newline rest) (length rest) l in absurd (some (position_or_len newline rest) (rw t at e))) (λ g. g) (cases_lt (position_or_len newline rest) (length rest)));
}
