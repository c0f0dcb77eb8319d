use Rattle.recovery.proofs.Promises.{used_is_found}
use Rattle.recovery.proofs.laws.used_is_found.Goals as goal

pub returns : goal.returns
returns c = used_is_found
