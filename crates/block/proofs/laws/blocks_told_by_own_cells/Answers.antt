use Rattle.block.proofs.Blocks.{told_by_own_cells}
use Rattle.block.proofs.laws.blocks_told_by_own_cells.Goals as goal

pub returns : goal.returns
returns c = told_by_own_cells
