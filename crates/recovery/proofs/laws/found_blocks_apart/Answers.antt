use Rattle.recovery.proofs.Promises.{apart}
use Rattle.recovery.proofs.laws.found_blocks_apart.Goals as goal

pub returns : goal.returns
returns c = apart
