use Rattle.recovery.proofs.Promises.{found_is_first}
use Rattle.recovery.proofs.laws.found_is_first.Goals as goal

pub returns : goal.returns
returns c = found_is_first
