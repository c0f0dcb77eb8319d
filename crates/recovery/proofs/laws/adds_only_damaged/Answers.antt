use Rattle.recovery.proofs.Kept.{adds_only_damaged}
use Rattle.recovery.proofs.laws.adds_only_damaged.Goals as goal

pub returns : goal.returns
returns c = adds_only_damaged
