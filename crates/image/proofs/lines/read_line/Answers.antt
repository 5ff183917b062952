use Rattle.std.proofs.Common.{Some, None, sym, ap, ◌∙◌}
use Rattle.lists.specs.Lists.{items}
use Rattle.image.specs.Meaning.{meaning}
use Rattle.image.proofs.Decided.{key_some}
use Rattle.image.proofs.Meanings.{scanned_cells, none_from, row_read}
use Rattle.image.proofs.lines.read_line.Goals as goal

pub returns-in_err-key : goal.returns-in_err-key
returns-in_err-key c =
    let s = c.args.line.now in
    rw c.from_residual.ensures
    (none_from (meaning s) c.as_slice.result.now c.requires.good (scanned_cells s _ c.requires c.read_cells-found.ensures ∙ sym c.as_slice.ensures) c.in_err-key.ensures)

pub returns-in_err-count : goal.returns-in_err-count
returns-in_err-count c =
    let s = c.args.line.now in
    let e = c.in_ok-key.ensures ∙ c.as_slice.ensures in
    rw c.from_residual-in_err-count.ensures
    (row_read s (items c.read_cells-found.result) c.requires c.read_cells-found.ensures (key_some c.in_ok-key.key _ e) None c.in_err-count.ensures)

pub returns : goal.returns
returns c =
    let s = c.args.line.now in
    let e = c.in_ok-key.ensures ∙ c.as_slice.ensures in
    ap (λ v. Some (v, c.in_ok-count.count.value)) e
    ∙ row_read s (items c.read_cells-found.result) c.requires c.read_cells-found.ensures (key_some c.in_ok-key.key _ e) (Some c.in_ok-count.count) c.in_ok-count.ensures
