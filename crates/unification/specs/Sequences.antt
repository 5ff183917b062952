-- Sequences of replacements in which no variable comes back.
use Rattle.std.specs.Prelude.{◌≡◌, ℕ, List, [], ◌∷◌, ◌≢◌}
use Rattle.terms.specs.declared.cell.Cell.{Cell}
use Rattle.terms.specs.Terms.{Are, Subst, apply}
use Rattle.unification.specs.Unifiers.{Replacement}

-- the variable x does not stand in the cells
abbrev pub Lacks : ℕ → List Cell → Type 0
Lacks x [] = Unit {0}
Lacks x (c ∷ cs) = (c.letter ≡ 86 → c.number ≢ x) × Lacks x cs

-- the replacements neither replace x nor bring it in
abbrev pub Apart : ℕ → List Replacement → Type 0
Apart x [] = Unit {0}
Apart x (b ∷ bs) = (b.name ≢ x) × Lacks x b.term × Apart x bs

-- the variables differ, and none stands in its own term or a later one
abbrev pub Proper : List ℕ → List Replacement → Type 0
Proper sig [] = Unit {0}
Proper sig (b ∷ bs) = Are sig 1 b.term × Lacks b.name b.term × Apart b.name bs × Proper sig bs

-- σ makes both sides of each replacement equal
abbrev pub Solves : Subst → List Replacement → Type 0
Solves σ [] = Unit {0}
Solves σ (b ∷ bs) = (σ b.name ≡ apply σ b.term) × Solves σ bs

-- y is not replaced
abbrev pub Unnamed : ℕ → List Replacement → Type 0
Unnamed y [] = Unit {0}
Unnamed y (b ∷ bs) = (b.name ≢ y) × Unnamed y bs
