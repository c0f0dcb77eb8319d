use Rattle.std.proofs.Common.{rules}
use Rattle.block.specs.Cell.{is_used}
use Rattle.block.proofs.head.is_used.Goals as goal

pub returns : goal.returns
unfolding is_used
returns c = search rules
