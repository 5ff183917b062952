-- What a whole sheet asks, and how it is answered.
use Rattle.std.specs.Prelude.{◌≡◌, ℕ, List, [], ◌∷◌, ◌++◌, map, take, None, Ok, Err, Option, Result}
use Rattle.kinds.specs.Meaning.{Meaning}
use Rattle.maps.specs.Maps.{Map}
use Rattle.terms.specs.declared.cell.Cell.{Cell}
use Rattle.compare.specs.declared.sample.Sample.{Sample}
use Rattle.manager.specs.declared.memory.Memory.{Memory}
use Rattle.manager.specs.Checks.{Passed, Refused}
use Rattle.manager.specs.New.{new_checks}
use Rattle.runs.specs.declared.call.Call.{Call}
use Rattle.runs.specs.declared.call.Answer.{Answer}
use Rattle.runs.specs.Calls.{asked_by}
use Rattle.runs.specs.Runs.{Ran, present}
use Rattle.requests.specs.Layout.{Ask, Reads}
use Rattle.sheets.specs.declared.fault.SheetFault.{SheetFault}
use Rattle.sheets.specs.declared.fault.SheetFault.TheVariants.{NoMemory, Manager}
use Rattle.sheets.specs.Lines.{LinesOf}
use Rattle.sheets.specs.Answers.{answer_lines}

-- each line is read as it asks
abbrev pub ReadEach : List (List ℕ) → List (Option Ask) → Type 0
ReadEach [] [] = Unit {0}
ReadEach [] (k ∷ ks) = ⊥
ReadEach (l ∷ ls) [] = ⊥
ReadEach (l ∷ ls) (k ∷ ks) = Reads l k × ReadEach ls ks

-- a last line without a newline is not laid out; after the last newline there is no line
abbrev pub unended : List ℕ → List (Option Ask)
unended [] = []
unended (b ∷ rest) = None ∷ []

-- what the lines of a sheet ask, absent for a line that is not laid out
pub record Asks (input : List ℕ) (ks : List (Option Ask)) : Type 0 where
  pub ended : List (List ℕ)
  pub rest : List ℕ
  pub lines : LinesOf input ended rest
  pub asked : List (Option Ask)
  pub read : ReadEach ended asked
  pub all : ks ≡ asked ++ unended rest

-- the calls run over a new manager, all of them, whatever their row buffers held before
pub record RanAll (sig : List ℕ) (M : Meaning) (places : ℕ) (calls : List Call) (answers : List Answer) (samples : List Sample) (first last : Map (List Cell)) : Type 0 where
  pub before : List Sample
  pub ran : Ran sig M places calls answers before samples first last

-- A sheet is answered over a new manager: of its first 65,536 bytes each line that is laid out is a call, the calls run in order with the serial
-- order of the whole, and each line gets its answer line.
pub record AnsweredSheet (sig : List ℕ) (M : Meaning) (places : ℕ) (input : List ℕ) (first last : Map (List Cell)) (output : List ℕ) : Type 0 where
  pub asks : List (Option Ask)
  pub calls : List Call
  pub answers : List Answer
  pub samples : List Sample
  pub read : Asks (take 65536 input) asks
  pub called : map asked_by calls ≡ present asks
  pub ran : RanAll sig M places calls answers samples first last
  pub written : output ≡ answer_lines asks answers samples

-- A sheet is answered; or the manager itself is refused, and the store's map is as it was; or memory is wanting. `bytes` are those of the output.
abbrev pub SheetDone : {Output : Type 0} → (Output → List ℕ) → List ℕ → Meaning → ℕ → Memory → List ℕ → Map (List Cell) → Map (List Cell) → Result Output SheetFault → Type 0
SheetDone bytes sig M places x input first last (Ok v) = Passed (new_checks x sig) × AnsweredSheet sig M places input first last (bytes v)
SheetDone bytes sig M places x input first last (Err (Manager f)) = Refused (new_checks x sig) f × (last ≡ first)
SheetDone bytes sig M places x input first last (Err NoMemory) = Unit {0}
