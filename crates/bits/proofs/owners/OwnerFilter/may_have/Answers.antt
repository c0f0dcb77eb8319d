use Rattle.std.proofs.Common.{rules}
use Rattle.std.proofs.iter.runs.Sources.{ranges}
use Rattle.bits.specs.Filter.{may_have}
use Rattle.bits.proofs.owners.OwnerFilter.may_have.Goals as goal

pub returns : goal.returns
unfolding may_have
returns c = search (rules, ranges)
