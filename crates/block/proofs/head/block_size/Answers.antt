use Rattle.std.proofs.Common.{rules}
use Rattle.block.specs.Block.{size_for}
use Rattle.block.proofs.head.block_size.Goals as goal

pub returns : goal.returns
unfolding size_for
returns c = record { value = search rules; bound = search rules }
