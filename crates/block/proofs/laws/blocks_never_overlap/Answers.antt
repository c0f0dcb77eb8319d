use Rattle.block.proofs.Blocks.{never_overlap}
use Rattle.block.proofs.laws.blocks_never_overlap.Goals as goal

pub returns : goal.returns
returns c = never_overlap
