-- What is asked, and the line of columns that shows it.
use Rattle.std.specs.Prelude.{ℕ, ◌^◌, ◌<◌, List, [], ◌∷◌, ◌++◌, Some, None, vec_items, codes, Option, ◌≢◌}
use Rattle.std.specs.List.{flat_map, AllByRecursion}
use Rattle.terms.specs.Fitting.{Description}
use Rattle.terms.specs.declared.cell.Cell.{Cell}
use Rattle.terms.specs.declared.constraint.Constraint.{Constraint}
use Rattle.serial.specs.History.{Call, Call.begin, Call.reserve, Call.look, Call.survey, Call.write, Call.strike, Call.commit, Call.abandon}
use Rattle.columns.specs.Columns.{cell_text}
use Rattle.requests.specs.declared.word.Word.{Word}
use Rattle.requests.specs.declared.word.Word.TheVariants.{Begin, Reserve, Look, Survey, Write, Strike, Commit, Abandon, Tally}
use Rattle.requests.specs.declared.request.Request.{Request}
use Rattle.requests.specs.declared.request.Request.TheVariants as asks
use Rattle.requests.specs.Lines.{Alike, left, field}

-- what is asked: a call, or else the tally
abbrev pub Ask : Type 0
Ask = Option (Call (List Cell) Description)

-- what a request asks
abbrev pub asked_of : Request → Ask
asked_of (asks.Begin planner) = Some (begin planner)
asked_of (asks.Reserve t right cells constraints) = Some (reserve t right (record { cells = vec_items cells; constraints = vec_items constraints }))
asked_of (asks.Look t cells) = Some (look t (vec_items cells))
asked_of (asks.Survey t n) = Some (survey t n)
asked_of (asks.Write t cells k) = Some (write t (vec_items cells) k)
asked_of (asks.Strike t cells) = Some (strike t (vec_items cells))
asked_of (asks.Commit t) = Some (commit t)
asked_of (asks.Abandon t) = Some (abandon t)
asked_of asks.Tally = None

-- the word of a call, in eight columns
unfoldable pub word_text : Word → List ℕ
word_text Begin = left 8 (codes "begin")
word_text Reserve = left 8 (codes "reserve")
word_text Look = left 8 (codes "look")
word_text Survey = left 8 (codes "survey")
word_text Write = left 8 (codes "write")
word_text Strike = left 8 (codes "strike")
word_text Commit = left 8 (codes "commit")
word_text Abandon = left 8 (codes "abandon")
word_text Tally = left 8 (codes "tally")

-- a condition in three groups: its form with the variable, and its two numbers, each after a blank
abbrev pub three : Constraint → List Cell
three k =
    record { letter = k.condition.form; number = k.variable }
    ∷ record { letter = 32; number = k.condition.a }
    ∷ record { letter = 32; number = k.condition.b } ∷ []

-- the groups of a description: all cells, and then all conditions
abbrev pub groups_of : Description → List Cell
groups_of d = d.cells ++ flat_map three d.constraints

-- the fields of a line: the word, two numbers, the right, and groups of ten columns
pub record Fields : Type 0 where
  pub word : Word
  pub first : Option ℕ
  pub second : Option ℕ
  pub right : ℕ
  pub groups : List Cell

abbrev fielded : Word → Option ℕ → Option ℕ → ℕ → List Cell → Fields
fielded w m n r gs = record { word = w; first = m; second = n; right = r; groups = gs }

-- which fields a call uses; the others are blank
abbrev pub fields : Ask → Fields
fields None = fielded Tally None None 32 []
fields (Some (begin planner)) = fielded Begin (Some planner) None 32 []
fields (Some (reserve t right d)) = fielded Reserve (Some t) None right (groups_of d)
fields (Some (look t cells)) = fielded Look (Some t) None 32 cells
fields (Some (survey t n)) = fielded Survey (Some t) (Some n) 32 []
fields (Some (write t cells k)) = fielded Write (Some t) (Some k) 32 cells
fields (Some (strike t cells)) = fielded Strike (Some t) None 32 cells
fields (Some (commit t)) = fielded Commit (Some t) None 32 []
fields (Some (abandon t)) = fielded Abandon (Some t) None 32 []

-- the fields in their columns
abbrev pub shown : Fields → List ℕ
shown f = word_text f.word ++ (field 7 f.first ++ (field 7 f.second ++ (f.right ∷ flat_map cell_text f.groups)))

-- the line that shows what is asked
abbrev pub text : Ask → List ℕ
text a = shown (fields a)

-- a letter that a cell or a form may have: neither a blank nor a newline
abbrev pub Letter : ℕ → Type 0
Letter b = (b ≢ 32) × (b ≢ 10)

abbrev pub LaidCell : Cell → Type 0
LaidCell c = Letter c.letter × (c.number < 10 ^ 9)

abbrev pub LaidConstraint : Constraint → Type 0
LaidConstraint k = Letter k.condition.form × (k.variable < 10 ^ 9) × (k.condition.a < 10 ^ 9) × (k.condition.b < 10 ^ 9)

-- there is room for it in its columns, and it is one line
abbrev pub Laid : Ask → Type 0
Laid None = Unit {0}
Laid (Some (begin planner)) = planner < 10 ^ 7
Laid (Some (reserve t right d)) = (t < 10 ^ 7) × (right ≢ 10) × AllByRecursion LaidCell d.cells × AllByRecursion LaidConstraint d.constraints
Laid (Some (look t cells)) = (t < 10 ^ 7) × AllByRecursion LaidCell cells
Laid (Some (survey t n)) = (t < 10 ^ 7) × (n < 10 ^ 7)
Laid (Some (write t cells k)) = (t < 10 ^ 7) × AllByRecursion LaidCell cells × (k < 10 ^ 7)
Laid (Some (strike t cells)) = (t < 10 ^ 7) × AllByRecursion LaidCell cells
Laid (Some (commit t)) = t < 10 ^ 7
Laid (Some (abandon t)) = t < 10 ^ 7

-- the line is laid out, and asks this
abbrev pub Shows : List ℕ → Ask → Type 0
Shows line a = Laid a × Alike line (text a)

-- what the line asks, or absent where it is not laid out
abbrev pub Reads : List ℕ → Option Ask → Type 0
Reads line None = (a : Ask) → Shows line a → ⊥
Reads line (Some a) = Shows line a
