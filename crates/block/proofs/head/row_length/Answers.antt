use Rattle.std.proofs.Common.{rules}
use Rattle.block.specs.Cell.{row_length}
use Rattle.block.proofs.head.row_length.Goals as goal

pub returns : goal.returns
unfolding row_length
returns c = record { value = search rules; bound = search rules }
