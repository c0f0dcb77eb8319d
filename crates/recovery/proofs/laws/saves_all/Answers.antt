use Rattle.recovery.proofs.Kept.{saves_all}
use Rattle.recovery.proofs.laws.saves_all.Goals as goal

pub returns : goal.returns
returns c = saves_all
