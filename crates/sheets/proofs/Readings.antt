-- Lines that are read one after another.
use Rattle.std.proofs.Common.{◌≡◌, ℕ, ◌+◌, ◌<◌, List, [], ◌∷◌, ◌++◌, map, length, get_or, take, Option, sym, ap, ◌∙◌, subst}
use Rattle.std.proofs.lemmas.List.{take_more, map-append}
use Rattle.requests.specs.Layout.{Ask, Reads}
use Rattle.sheets.specs.Sheets.{ReadEach}

push : (ls : List (List ℕ)) (ks : List (Option Ask)) (l : List ℕ) (k : Option Ask) → ReadEach ls ks → Reads l k → ReadEach (ls ++ (l ∷ [])) (ks ++ (k ∷ []))
push [] [] l k h r = (r, tt)
push [] (q ∷ ks) l k h r = absurd h
push (p ∷ ls) [] l k h r = absurd h
push (p ∷ ls) (q ∷ ks) l k h r = (h.0, push ls ks l k h.1 r)

-- one line more, of lines that are given by some other means
pub read_more : {X Y : Type 0} (line : X → List ℕ) (ask : Y → Option Ask) (xs : List X) (i : ℕ) (d : X) (ys ys' : List Y) (y : Y) → i < length xs → ys' ≡ ys ++ (y ∷ [])
    → ReadEach (map line (take i xs)) (map ask ys) → Reads (line (get_or xs i d)) (ask y) → ReadEach (map line (take (i + 1) xs)) (map ask ys')
read_more line ask xs i d ys ys' y l e h r =
    subst (λ ls. ReadEach ls (map ask ys')) (sym (ap (map line) (take_more xs i d l) ∙ map-append line (take i xs) (get_or xs i d ∷ [])))
    (subst (λ ks. ReadEach (map line (take i xs) ++ (line (get_or xs i d) ∷ [])) ks) (sym (ap (map ask) e ∙ map-append ask ys (y ∷ [])))
    (push (map line (take i xs)) (map ask ys) (line (get_or xs i d)) (ask y) h r))
