use Rattle.std.proofs.Common.{[], ◌∷◌, vec_items}
use Rattle.columns.specs.Columns.{columns, cell_text}
use Rattle.requests.proofs.Pushes.{onto}
use Rattle.requests.proofs.push.push_cell.Goals as goal

pub returns : goal.returns
unfolding cell_text
returns c =
    onto (vec_items c.args.out.now) (c.args.cell.letter ∷ []) (columns 9 c.args.cell.number) c.in_ok-push.ensures.items c.in_ok-push_columns.ensures
