-- Cells in ten columns.
use Rattle.std.proofs.Common.{◌≡◌, ℕ, ◌-◌, ◌<◌, List, [], ◌∷◌, ◌++◌, length, get_or, take, drop, set, Ok, Err, decimal, Result, ap, ◌∙◌, arith}
use borrow.Rule.Slice.PartMut.{put_mid}
use Rattle.std.proofs.lemmas.List.{append-nil, length-set, length-drop, length-take-le, take_all, drop_all, take_more_set}
use Rattle.std.proofs.lemmas.Slice.{first_rest}
use Rattle.terms.specs.declared.cell.Cell.{Cell}
use Rattle.std.proofs.lemmas.Fmt.{length-decimal-le}
use Rattle.columns.specs.declared.number.NoRoom.{NoRoom}
use Rattle.columns.specs.Columns.{blank, columns, cell_text, Short, Writes, WritesCell}
use Rattle.columns.proofs.Numbers.{columns_length, columns_same, columns_marked}

module _ (part : List ℕ) (ten : length part ≡ 10) where
  pub tail_length : length (take 9 (drop 1 part)) ≡ 9
  tail_length = let d = length-drop 1 part in length-take-le 9 (drop 1 part) (omega arith)

  -- a letter, and then a number
  pub cell_from : (n : ℕ) → take 9 (drop 1 part) ≡ columns 9 n → part ≡ cell_text (record { letter = get_or part 0 0; number = n })
  unfolding cell_text
  cell_from n e =
      let h : 0 < length part = omega arith in
      first_rest part 0 h ∙ ap (λ m. get_or part 0 0 ∷ take (m - 1) (drop 1 part)) ten ∙ ap (λ t. get_or part 0 0 ∷ t) e

  -- a letter and a number are written
  pub cell_put : (c : Cell) (ys : List ℕ) → ys ≡ columns 9 c.number → put_mid 1 9 (set part 0 c.letter) ys ≡ cell_text c
  unfolding cell_text
  cell_put c ys e =
      let ls = length-set part 0 c.letter in
      let lo : 0 < length part = omega arith in
      let z : drop 9 (drop 1 (set part 0 c.letter)) ≡ [] = drop_all 9 (drop 1 (set part 0 c.letter)) (let d = length-drop 1 (set part 0 c.letter) in omega arith) in
      let f : take 1 (set part 0 c.letter) ≡ c.letter ∷ [] = take_more_set part 0 c.letter lo in
      ap (λ v. v ++ (ys ++ drop 9 (drop 1 (set part 0 c.letter)))) f ∙ ap (λ v. c.letter ∷ (ys ++ v)) z ∙ ap (λ v. c.letter ∷ v) (append-nil ys ∙ e)

-- what a write into nine columns gives
pub cell_written : (part : List ℕ) (c : Cell) (ys : List ℕ) (r : Result (Unit {0}) NoRoom) → length part ≡ 10 → Short c
    → Writes (decimal c.number) (take 9 (drop 1 (set part 0 c.letter))) ys r → WritesCell c part (put_mid 1 9 (set part 0 c.letter) ys) r
unfolding columns
cell_written part c ys (Ok u) ten h w =
    let l = tail_length (set part 0 c.letter) (length-set part 0 c.letter ∙ ten) in
    (cell_put part ten c ys (w.0 ∙ ap (λ m. columns m c.number) l), h, ten)
cell_written part c ys (Err f) ten h w =
    let l = tail_length (set part 0 c.letter) (length-set part 0 c.letter ∙ ten) in
    let d = length-decimal-le 9 c.number (omega arith) h (omega arith) in
    let n = w.1 in
    absurd (omega arith)

pub cell_length : (c : Cell) → Short c → length (cell_text c) ≡ 10
unfolding cell_text
cell_length c h = let l = columns_length 9 c.number (omega arith) (omega arith) h in omega arith

pub cell_tail : (part : List ℕ) (c : Cell) → Short c → part ≡ cell_text c → take 9 (drop 1 part) ≡ columns 9 c.number
unfolding cell_text
cell_tail part c h e =
    ap (λ t. take 9 (drop 1 t)) e ∙ take_all 9 (columns 9 c.number) (let l = columns_length 9 c.number (omega arith) (omega arith) h in omega arith)

abbrev made : ℕ → ℕ → Cell
made l n = record { letter = l; number = n }

-- the columns show at most one cell
pub cell_same : (c d : Cell) → Short c → Short d → cell_text c ≡ cell_text d → c ≡ d
unfolding cell_text
cell_same c d h k e =
    let l : c.letter ≡ d.letter = ap (λ t. get_or t 0 0) e in
    let n : c.number ≡ d.number = columns_same 9 c.number d.number (omega arith) (omega arith) (ap (drop 1) e) in
    ap (λ x. made x c.number) l ∙ ap (made d.letter) n

-- no cell is blank
pub cell_marked : (c : Cell) → Short c → cell_text c ≡ blank 10 → ⊥
unfolding cell_text
cell_marked c h e = columns_marked 8 c.number (omega arith) (ap (drop 1) e)
