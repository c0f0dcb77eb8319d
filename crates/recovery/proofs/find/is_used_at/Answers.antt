use Rattle.std.proofs.Common.{arith}
use Rattle.std.proofs.lemmas.Bool.Decides.{nat_tests}
use Rattle.std.proofs.lemmas.Grind.{common_steps}
use Rattle.block.specs.Block.{block, used}
use Rattle.recovery.proofs.find.is_used_at.Goals as goal

pub returns-then-is_ok_and : goal.returns-then-is_ok_and
unfolding used
returns-then-is_ok_and c = grind (arith, common_steps, nat_tests)

pub returns-else-is_ok_and : goal.returns-else-is_ok_and
unfolding used block
returns-else-is_ok_and c = grind (arith, common_steps, nat_tests)
