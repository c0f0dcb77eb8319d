use Rattle.block.proofs.Written.{written_and_read}
use Rattle.block.proofs.laws.blocks_written_and_read.Goals as goal

pub returns : goal.returns
returns c = written_and_read
