use Rattle.maps.proofs.Figures.{figures_unique}
use Rattle.serial.proofs.surveys_stand.Goals as goal

pub returns : goal.returns
returns g c = λ p. figures_unique _
