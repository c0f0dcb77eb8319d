use Rattle.std.proofs.Common.{Some, None, Ok, ap, sym, ◌∙◌}
use Rattle.requests.proofs.Says.{take_says, take_fits}
use Rattle.requests.proofs.entries.take_block.Goals as goal

pub run-requires : goal.run-requires
run-requires c = take_fits c.args.shelf.now c.args.whose c.args.long c.in-Some.taking (ap Ok (sym c.in-Some.is) ∙ c.in_ok-taking.ensures)

pub returns-clause-says : goal.returns-clause-says
returns-clause-says c = rw c.run.ensures (take_says c.args.shelf.now c.args.whose c.args.long (Ok (Some c.in-Some.taking)) (ap Ok (sym c.in-Some.is) ∙ c.in_ok-taking.ensures))

pub returns-in_default-clause-says : goal.returns-in_default-clause-says
returns-in_default-clause-says c = take_says c.args.shelf.now c.args.whose c.args.long (Ok None) (ap Ok (sym c.in_default.is) ∙ c.in_ok-taking.ensures)
