use Rattle.serial.proofs.Invariant.{serial}
use Rattle.serial.proofs.serial_stands.Goals as goal

pub returns : goal.returns
returns g c = λ first m h run. serial _ first h m run
