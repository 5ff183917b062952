use Rattle.serial.proofs.Ties.{machine_runs}
use Rattle.serial.proofs.machine_stands.Goals as goal

pub returns : goal.returns
returns g c = machine_runs _
