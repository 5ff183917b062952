use Rattle.compare.proofs.Cases.{worked}
use Rattle.compare.proofs.worked.worked_cases.Goals as goal

pub returns : goal.returns
returns c = worked
