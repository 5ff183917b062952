use Rattle.maps.proofs.Sizes.{sized_unique, sized_row}
use Rattle.maps.proofs.sizes_stand.Goals as goal

pub returns : goal.returns
returns g c = record { one = sized_unique; moves = sized_row }
