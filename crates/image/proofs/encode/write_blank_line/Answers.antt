use Rattle.std.proofs.Common.{ap, ◌∙◌}
use Rattle.columns.specs.Columns.{blank}
use Rattle.image.proofs.Slots.{blank_written}
use Rattle.image.proofs.encode.write_blank_line.Goals as goal

pub returns : goal.returns
returns c = blank_written _ (c.write_blank.ensures ∙ ap blank c.requires)
