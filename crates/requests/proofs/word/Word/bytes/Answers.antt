use Rattle.std.proofs.Common.{sym, ap}
use Rattle.requests.specs.Layout.{word_text}
use Rattle.requests.proofs.word.Word.bytes.Goals as goal

pub returns-in-Begin : goal.returns-in-Begin
unfolding word_text
returns-in-Begin c = sym (ap word_text c.in-Begin.is)

pub returns-in-Reserve : goal.returns-in-Reserve
unfolding word_text
returns-in-Reserve c = sym (ap word_text c.in-Reserve.is)

pub returns-in-Look : goal.returns-in-Look
unfolding word_text
returns-in-Look c = sym (ap word_text c.in-Look.is)

pub returns-in-Survey : goal.returns-in-Survey
unfolding word_text
returns-in-Survey c = sym (ap word_text c.in-Survey.is)

pub returns-in-Write : goal.returns-in-Write
unfolding word_text
returns-in-Write c = sym (ap word_text c.in-Write.is)

pub returns-in-Strike : goal.returns-in-Strike
unfolding word_text
returns-in-Strike c = sym (ap word_text c.in-Strike.is)

pub returns-in-Commit : goal.returns-in-Commit
unfolding word_text
returns-in-Commit c = sym (ap word_text c.in-Commit.is)

pub returns-in-Abandon : goal.returns-in-Abandon
unfolding word_text
returns-in-Abandon c = sym (ap word_text c.in-Abandon.is)

pub returns-in-Tally : goal.returns-in-Tally
unfolding word_text
returns-in-Tally c = sym (ap word_text c.in-Tally.is)
