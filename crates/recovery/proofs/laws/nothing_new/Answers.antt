use Rattle.recovery.proofs.Kept.{nothing_new}
use Rattle.recovery.proofs.laws.nothing_new.Goals as goal

pub returns : goal.returns
returns c = nothing_new
