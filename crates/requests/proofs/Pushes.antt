-- Texts one after another.
use Rattle.std.proofs.Common.{◌≡◌, ℕ, ◌+◌, ◌<◌, ◌≤◌, List, [], ◌∷◌, ◌++◌, length, get_or, take, drop, Some, None, sym, refl, ap, ◌∙◌, arith}
use Rattle.std.proofs.lemmas.List.{append_assoc, append-nil, flat_map_more, take_more, take_all, take-take, take-append-drop, drop-take, take_at, drop_at}
use Rattle.std.specs.List.{flat_map}
use Rattle.serial.specs.History.{Call.begin, Call.reserve, Call.look, Call.survey, Call.write, Call.strike, Call.commit, Call.abandon}
use Rattle.columns.specs.Columns.{cell_text}
use Rattle.requests.specs.declared.request.RequestLine.{RequestLine}
use Rattle.requests.specs.Lines.{field, trim}
use Rattle.requests.specs.Layout.{Ask, fields, groups_of, text, three, word_text}
use Rattle.requests.specs.Fields.{described, LineOf}

-- one text after another
pub onto : (a x y : List ℕ) {b c : List ℕ} → b ≡ a ++ x → c ≡ b ++ y → c ≡ a ++ (x ++ y)
onto a x y p q = q ∙ ap (λ t. t ++ y) p ∙ append_assoc a x y

-- the texts of one element more
pub joined_next : {X : Type 0} (f : X → List ℕ) (a : List ℕ) (xs : List X) (i : ℕ) (d : X) {b c : List ℕ} → i < length xs
    → b ≡ a ++ flat_map f (take i xs) → c ≡ b ++ f (get_or xs i d) → c ≡ a ++ flat_map f (take (i + 1) xs)
joined_next f a xs i d h p q =
    q ∙ ap (λ t. t ++ f (get_or xs i d)) p ∙ flat_map_more f a (take i xs) (get_or xs i d) ∙ ap (λ t. a ++ flat_map f t) (sym (take_more xs i d h))

pub joined_last : {X : Type 0} (f : X → List ℕ) (a : List ℕ) (xs : List X) (i : ℕ) {b : List ℕ} → length xs ≤ i → b ≡ a ++ flat_map f (take i xs) → b ≡ a ++ flat_map f xs
joined_last f a xs i h p = p ∙ ap (λ t. a ++ flat_map f t) (take_all i xs h)

pub joined_append : {X : Type 0} (f : X → List ℕ) (xs ys : List X) → flat_map f (xs ++ ys) ≡ flat_map f xs ++ flat_map f ys
joined_append f [] ys = refl
joined_append f (x ∷ xs) ys = ap (λ t. f x ++ t) (joined_append f xs ys) ∙ sym (append_assoc (f x) (flat_map f xs) (flat_map f ys))

pub joined_joined : {X Y : Type 0} (f : Y → List ℕ) (g : X → List Y) (xs : List X) → flat_map f (flat_map g xs) ≡ flat_map (λ x. flat_map f (g x)) xs
joined_joined f g [] = refl
joined_joined f g (x ∷ xs) = joined_append f (g x) (flat_map g xs) ∙ ap (λ t. flat_map f (g x) ++ t) (joined_joined f g xs)

groups_are : (a : Ask) → (fields a).groups ≡ groups_of (described a)
groups_are None = refl
groups_are (Some (begin planner)) = refl
groups_are (Some (reserve t right d)) = refl
groups_are (Some (look t cells)) = sym (append-nil cells)
groups_are (Some (survey t n)) = refl
groups_are (Some (write t cells k)) = sym (append-nil cells)
groups_are (Some (strike t cells)) = sym (append-nil cells)
groups_are (Some (commit t)) = refl
groups_are (Some (abandon t)) = refl

-- the text of a request, from its columns
pub line_text : (a : Ask) (l : RequestLine) → LineOf a l
    → word_text l.word ++ (field 7 l.first ++ (field 7 l.second ++ (l.right ∷ (flat_map cell_text l.cells.now ++ flat_map (λ k. flat_map cell_text (three k)) l.constraints.now)))) ≡ text a
line_text a l e =
    let d = described a in
    let g : flat_map cell_text (fields a).groups ≡ flat_map cell_text d.cells ++ flat_map (λ k. flat_map cell_text (three k)) d.constraints =
    ap (flat_map cell_text) (groups_are a) ∙ joined_append cell_text d.cells (flat_map three d.constraints)
    ∙ ap (λ t. flat_map cell_text d.cells ++ t) (joined_joined cell_text three d.constraints) in
    let c = e.cells in
    let k = e.constraints in
    cc

-- what was added, without the blanks at its end
pub cut_back : (a x b p : List ℕ) (from n : ℕ) → b ≡ a ++ x → length a ≡ from → p ≡ drop from b → take n p ≡ trim p → take (from + n) b ≡ a ++ trim x
cut_back a x b p from n e l d t =
    let q : p ≡ x = d ∙ ap (drop from) e ∙ drop_at a x from l in
    sym (take-append-drop from (take (from + n) b))
    ∙ ap (λ s. s ++ drop from (take (from + n) b)) (take-take from (from + n) b (omega arith) ∙ ap (take from) e ∙ take_at a x from l)
    ∙ ap (λ s. a ++ s) (drop-take from n b ∙ ap (take n) (sym d) ∙ t ∙ ap trim q)
