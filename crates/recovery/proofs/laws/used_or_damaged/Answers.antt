use Rattle.recovery.proofs.Promises.{used_or_damaged}
use Rattle.recovery.proofs.laws.used_or_damaged.Goals as goal

pub returns : goal.returns
returns c = used_or_damaged
