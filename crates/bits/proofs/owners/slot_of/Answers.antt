use Rattle.std.proofs.Common.{rules}
use Rattle.bits.specs.Filter.{slot}
use Rattle.bits.proofs.owners.slot_of.Goals as goal

pub returns-clause-value : goal.returns-clause-value
unfolding slot
returns-clause-value c = search rules
