use Rattle.recovery.proofs.Promises.{saves_used}
use Rattle.recovery.proofs.laws.saves_used.Goals as goal

pub returns : goal.returns
returns c = saves_used
