use Rattle.block.proofs.Blocks.{has_one_head}
use Rattle.block.proofs.laws.blocks_have_one_head.Goals as goal

pub returns : goal.returns
returns c = has_one_head
