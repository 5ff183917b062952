-- Calls and answers in the words of the serial order.
use Rattle.std.specs.Prelude.{ℕ, List, Some, None, Option}
use Rattle.std.specs.Option.{option_map}
use Rattle.terms.specs.declared.cell.Cell.{Cell}
use Rattle.terms.specs.Fitting.{Description}
use Rattle.stores.specs.Means.{count_of}
use Rattle.serial.specs.History as words
use Rattle.serial.specs.History.{Event}
use Rattle.serial.specs.History.{Event.refused, Event.began, Event.reserved, Event.did, Event.committed, Event.abandoned}
use Rattle.serial.specs.History.{Deed.looked, Deed.surveyed, Deed.changed}
use Rattle.runs.specs.declared.call.Call.{Call}
use Rattle.runs.specs.declared.call.Call.TheVariants.{Begin, Reserve, Look, Survey, Write, Strike, Commit, Abandon, Tally}
use Rattle.runs.specs.declared.call.Answer.{Answer}
use Rattle.runs.specs.declared.call.Answer.TheVariants as answers
use Rattle.manager.specs.Faults.{manager_refusal}

-- What is asked; a row or a pattern is the raw list that the caller wrote. The tally is no part of a history.
abbrev pub asked_by : Call → Option (words.Call (List Cell) Description)
asked_by (Begin planner) = Some (words.Call.begin planner)
asked_by (Reserve t letter cells constraints) = Some (words.Call.reserve t letter (record { cells = cells.now; constraints = constraints.now }))
asked_by (Look t cells) = Some (words.Call.look t cells.now)
asked_by (Survey t n) = Some (words.Call.survey t n)
asked_by (Write t cells k) = Some (words.Call.write t cells.now k)
asked_by (Strike t cells) = Some (words.Call.strike t cells.now)
asked_by (Commit t) = Some (words.Call.commit t)
asked_by (Abandon t) = Some (words.Call.abandon t)
asked_by Tally = None

-- what a caller is told
pub data Reply : Type 0 where
  refused_with : ℕ → Reply
  number : ℕ → Reply
  count : Option ℕ → Reply
  figures : ℕ → ℕ → Reply
  done : Reply

-- what the history says that the caller was told
abbrev pub told : Event (List Cell) Description → Reply
told (refused c n) = refused_with n
told (began planner t) = number t
told (reserved t w p n) = number n
told (did t (looked r v)) = count v
told (did t (surveyed n rows total)) = figures rows total
told (did t (changed r a)) = done
told (committed t n) = number n
told (abandoned t n) = number n

-- what the answer says: of a refusal, its number
abbrev pub says : Answer → Option Reply
says (answers.Refused f) = Some (refused_with (manager_refusal f).number)
says (answers.Number n) = Some (number n)
says (answers.Found v) = Some (count (option_map count_of v))
says (answers.Figures rows total) = Some (figures rows total)
says answers.Done = Some done
says (answers.Tally n) = None
