use Rattle.recovery.proofs.Mended.{can_be_mended}
use Rattle.recovery.proofs.laws.can_be_mended.Goals as goal

pub returns : goal.returns
returns c = can_be_mended
