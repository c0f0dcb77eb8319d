use Rattle.std.proofs.Common.{arith}
use Rattle.shelf.proofs.Along.{next_more}
use Rattle.shelf.proofs.Items.{said_inside}
use Rattle.shelf.proofs.walk.WalkIterator.next.Goals as goal

pub returns-clause-goes : goal.returns-clause-goes
returns-clause-goes c =
    let a = c.args.self.now.shelf.now in
    let here = said_inside a c.args.self.now.at c.in_ok-item.item c.in_ok-item.ensures.value in
    let on = next_more a c.args.self.now.at in
    let end = c.in_ok-item.ensures.end in
    record { on = λ _. (tt, tt, omega (arith, here.0)); keeps = tt; rests = λ _. tt }
