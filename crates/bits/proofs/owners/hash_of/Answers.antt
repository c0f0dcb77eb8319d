use Rattle.std.proofs.Common.{rules}
use Rattle.bits.specs.Filter.{hash}
use Rattle.bits.proofs.owners.hash_of.Goals as goal

pub returns : goal.returns
unfolding hash
returns c = search rules
