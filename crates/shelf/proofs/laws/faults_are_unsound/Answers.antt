use Rattle.shelf.proofs.Faults.{fault_is_unsound}
use Rattle.shelf.proofs.laws.faults_are_unsound.Goals as goal

pub returns : goal.returns
returns c = fault_is_unsound
