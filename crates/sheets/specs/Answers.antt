-- The answer lines of a sheet.
use Rattle.std.specs.Prelude.{ℕ, List, [], ◌∷◌, ◌++◌, Some, None, Option}
use Rattle.std.specs.Option.{option_map}
use Rattle.refusals.specs.declared.Refusal.{Refusal}
use Rattle.compare.specs.declared.sample.Sample.{Sample}
use Rattle.stores.specs.Means.{count_of}
use Rattle.runs.specs.declared.call.Answer.{Answer}
use Rattle.runs.specs.declared.call.Answer.TheVariants.{Refused, Number, Found, Figures, Done, Tally}
use Rattle.manager.specs.declared.fault.ManagerFault.{ManagerFault}
use Rattle.manager.specs.declared.fault.ManagerFault.TheVariants.{Pattern, Store, Planner, TransactionsFull, NumbersSpent, NotOpen, Right, ReservationsFull, NoneFits, NotOwn, Count, NoneWrites, ChangesFull, Conflict}
use Rattle.manager.specs.Faults.{manager_refusal}
use Rattle.requests.specs.declared.word.Word.{Word}
use Rattle.requests.specs.declared.answer.AnswerLine.{AnswerLine}
use Rattle.requests.specs.Lines.{trim}
use Rattle.requests.specs.Answers.{answer_text}
use Rattle.requests.specs.Layout.{Ask, fields}

-- the answer to a line that is not laid out
abbrev pub not_laid : AnswerLine
not_laid = record { word = None; refusal = 44; first = None; second = None; sample = None }

-- a granted call's two numbers
abbrev pub granted : Word → Option ℕ → Option ℕ → AnswerLine
granted w first second = record { word = Some w; refusal = 0; first = first; second = second; sample = None }

-- who holds what a reserve collides with: a transaction and its reservation
abbrev pub holder : ManagerFault → Option (ℕ × ℕ)
holder (Conflict t n) = Some (t, n)
holder (Pattern f) = None
holder (Store f) = None
holder Planner = None
holder TransactionsFull = None
holder NumbersSpent = None
holder NotOpen = None
holder Right = None
holder ReservationsFull = None
holder NoneFits = None
holder NotOwn = None
holder Count = None
holder NoneWrites = None
holder ChangesFull = None

-- a conflict names the holder and shows the sample; any other refusal has its place, if it has one
abbrev pub refused : Word → Refusal → Option (ℕ × ℕ) → Sample → AnswerLine
refused w r (Some h) s = record { word = Some w; refusal = r.number; first = Some h.0; second = Some h.1; sample = Some s }
refused w r None s = record { word = Some w; refusal = r.number; first = r.place; second = None; sample = None }

abbrev pub line_of : Word → Answer → Sample → AnswerLine
line_of w (Refused f) s = refused w (manager_refusal f) (holder f) s
line_of w (Number n) s = granted w (Some n) None
line_of w (Found v) s = granted w (option_map count_of v) None
line_of w (Figures rows total) s = granted w (Some rows) (Some total)
line_of w Done s = granted w None None
line_of w (Tally n) s = granted w None (Some n)

-- a line of an answer as it is written
abbrev pub written : AnswerLine → List ℕ
written l = trim (answer_text l) ++ (10 ∷ [])

-- One line for each line of the sheet: those that are laid out get the answers in their order, with the row buffers.
abbrev pub answer_lines : List (Option Ask) → List Answer → List Sample → List ℕ
answer_lines [] rs ss = []
answer_lines (None ∷ ks) rs ss = written not_laid ++ answer_lines ks rs ss
answer_lines (Some k ∷ ks) [] ss = answer_lines ks [] ss
answer_lines (Some k ∷ ks) (r ∷ rs) [] = answer_lines ks (r ∷ rs) []
answer_lines (Some k ∷ ks) (r ∷ rs) (s ∷ ss) = written (line_of (fields k).word r s) ++ answer_lines ks rs ss
