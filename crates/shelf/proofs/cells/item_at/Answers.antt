use Rattle.std.proofs.Common.{arith}
use Rattle.std.proofs.lemmas.Bool.Decides.{nat_tests}
use Rattle.block.specs.Block.{size_for}
use Rattle.shelf.specs.Walk.{next}
use Rattle.shelf.proofs.cells.item_at.Goals as goal

pub returns-then-cell-clause-end : goal.returns-then-cell-clause-end
unfolding next
returns-then-cell-clause-end c = grind (arith, nat_tests)

pub returns-then-not-is_used-clause-end : goal.returns-then-not-is_used-clause-end
unfolding next size_for
returns-then-not-is_used-clause-end c = grind (arith, nat_tests)

pub returns-clause-end : goal.returns-clause-end
unfolding next size_for
returns-clause-end c = grind (arith, nat_tests)
