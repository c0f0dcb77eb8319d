use Rattle.std.proofs.Common.{Ok}
use Rattle.requests.proofs.Says.{give_says, give_fits}
use Rattle.requests.proofs.entries.give_back.Goals as goal

pub run-requires : goal.run-requires
run-requires c = give_fits c.args.shelf.now c.args.whose c.in_ok-plan_give.field-0 c.in_ok-plan_give.ensures

pub returns-clause-says : goal.returns-clause-says
returns-clause-says c = rw c.run.ensures (give_says c.args.shelf.now c.args.whose (Ok c.in_ok-plan_give.field-0) c.in_ok-plan_give.ensures)
