-- The line of an answer.
use Rattle.std.specs.Prelude.{ℕ, cond, List, [], ◌∷◌, ◌++◌, Some, None, Option, ◌==◌}
use Rattle.std.specs.List.{flat_map}
use Rattle.terms.specs.declared.cell.Cell.{Cell}
use Rattle.compare.specs.declared.sample.Sample.{Sample}
use Rattle.columns.specs.Columns.{blank, columns, cell_text}
use Rattle.requests.specs.declared.word.Word.{Word}
use Rattle.requests.specs.declared.answer.AnswerLine.{AnswerLine}
use Rattle.requests.specs.Lines.{field}
use Rattle.requests.specs.Layout.{word_text}

-- the request's word, or blanks where the line was not laid out
abbrev pub word_field : Option Word → List ℕ
word_field None = blank 8
word_field (Some w) = word_text w

-- ten columns of a sample: blanks where there is no cell
abbrev pub group_text : Cell → List ℕ
group_text c = cond (c.letter == 32) (blank 10) (cell_text c)

-- the cells of a sample, and a plus if more follow
abbrev pub sample_text : Option Sample → List ℕ
sample_text None = []
sample_text (Some s) = flat_map group_text s.cells ++ cond s.more (43 ∷ []) []

-- the answer in its columns
abbrev pub answer_text : AnswerLine → List ℕ
answer_text l =
    word_field l.word ++ (columns 7 l.refusal ++ (field 7 l.first ++ (field 11 l.second ++ sample_text l.sample)))
