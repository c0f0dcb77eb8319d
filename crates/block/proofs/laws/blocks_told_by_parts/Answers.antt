use Rattle.block.proofs.Blocks.{told_by_parts}
use Rattle.block.proofs.laws.blocks_told_by_parts.Goals as goal

pub returns : goal.returns
returns c = told_by_parts
