use Rattle.std.proofs.Common.{arith}
use Rattle.block.proofs.Blocks.{size_pos}
use Rattle.recovery.proofs.find.UsedBlocksIterator.next.Goals as goal

pub returns-clause-goes : goal.returns-clause-goes
returns-clause-goes c = record { on = λ _. (tt, tt, omega (arith, c.in_ok-place.ensures.some, c.block_size.ensures.value, size_pos)); keeps = tt; rests = λ _. tt }
