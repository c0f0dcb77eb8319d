use Rattle.std.proofs.Common.{arith}
use Rattle.std.proofs.lemmas.Bool.Decides.{nat_tests}
use Rattle.shelf.specs.Walk.{next}
use Rattle.shelf.proofs.cells.next_place.Goals as goal

pub returns-then-cell : goal.returns-then-cell
unfolding next
returns-then-cell c = grind (arith, nat_tests)

pub returns-else-cell : goal.returns-else-cell
unfolding next
returns-else-cell c = grind (arith, nat_tests)
