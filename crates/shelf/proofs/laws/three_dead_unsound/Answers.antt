use Rattle.shelf.proofs.Faults.{three_dead_unsound}
use Rattle.shelf.proofs.laws.three_dead_unsound.Goals as goal

pub returns : goal.returns
returns c = three_dead_unsound
