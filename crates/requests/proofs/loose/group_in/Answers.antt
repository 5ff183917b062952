use Rattle.std.proofs.Common.{◌≡◌, ℕ, List, Some, None, Option, unwrap_or, sym, ◌∙◌}
use Rattle.terms.specs.declared.cell.Cell.{Cell}
use Rattle.columns.specs.Columns.{cell_text, ReadsCell, Short}
use Rattle.columns.proofs.Cells.{cell_same}
use Rattle.requests.proofs.loose.group_in.Goals as goal

-- what ten columns show is read
read : (part : List ℕ) (o : Option Cell) (d r c : Cell) → ReadsCell part o → r ≡ unwrap_or o d → Short c → part ≡ cell_text c → r ≡ c
read part None d r c none e h s = absurd (none c h s)
read part (Some k) d r c reads e h s = e ∙ cell_same k c reads.1 h (sym reads.0 ∙ s)

pub returns : goal.returns
returns c cell h s = read c.front.result c.read_cell.result _ c.unwrap_or.result cell c.read_cell.ensures c.unwrap_or.ensures h (c.front.ensures ∙ s)
