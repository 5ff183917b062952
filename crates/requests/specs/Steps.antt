-- The steps by which a line is read: what it asks, if it asks anything.
use Rattle.std.specs.Prelude.{ℕ, ◌+◌, cond, List, [], ◌∷◌, take, drop, Some, None, ◌==◌}
use Rattle.terms.specs.Fitting.{Description}
use Rattle.terms.specs.declared.cell.Cell.{Cell}
use Rattle.terms.specs.declared.constraint.Constraint.{Constraint}
use Rattle.serial.specs.History.{Call.begin, Call.reserve, Call.look, Call.survey, Call.write, Call.strike, Call.commit, Call.abandon}
use Rattle.requests.specs.declared.word.Word.{Word}
use Rattle.requests.specs.declared.word.Word.TheVariants.{Begin, Reserve, Look, Survey, Write, Strike, Commit, Abandon, Tally}
use Rattle.requests.specs.Layout.{Ask}

-- the word that begins with two letters, if one does
abbrev pub guessed : ℕ → ℕ → Word
guessed a b =
    cond (a == 98) Begin
    (cond (a == 114) Reserve
    (cond (a == 108) Look
    (cond (a == 119) Write
    (cond (a == 99) Commit
    (cond (a == 97) Abandon
    (cond (a == 115) (cond (b == 117) Survey Strike) Tally))))))

-- where the conditions begin: the first group of which the next one has a blank letter
unfoldable pub start : List Cell → ℕ
start [] = 0
start (g ∷ []) = 1
start (g ∷ (h ∷ gs)) = cond (h.letter == 32) 0 (1 + start (h ∷ gs))

-- the condition of three groups
abbrev pub condition_of : Cell → Cell → Cell → Constraint
condition_of f a b = record { variable = f.number; condition = record { form = f.letter; a = a.number; b = b.number } }

-- the conditions in groups of three
unfoldable pub conditions : List Cell → List Constraint
conditions [] = []
conditions (f ∷ []) = []
conditions (f ∷ (a ∷ [])) = []
conditions (f ∷ (a ∷ (b ∷ gs))) = condition_of f a b ∷ conditions gs

-- cells, and then conditions
abbrev pub split : List Cell → Description
split gs = record { cells = take (start gs) gs; constraints = conditions (drop (start gs) gs) }

-- what the word asks of what stands in the other columns
abbrev pub ask_of : Word → ℕ → ℕ → ℕ → List Cell → Ask
ask_of Begin m n right gs = Some (begin m)
ask_of Reserve m n right gs = Some (reserve m right (split gs))
ask_of Look m n right gs = Some (look m gs)
ask_of Survey m n right gs = Some (survey m n)
ask_of Write m n right gs = Some (write m gs n)
ask_of Strike m n right gs = Some (strike m gs)
ask_of Commit m n right gs = Some (commit m)
ask_of Abandon m n right gs = Some (abandon m)
ask_of Tally m n right gs = None
