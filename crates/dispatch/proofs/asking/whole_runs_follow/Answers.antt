use Rattle.dispatch.proofs.Follow.{whole_runs}
use Rattle.dispatch.proofs.asking.whole_runs_follow.Goals as goal

pub returns : goal.returns
returns c = whole_runs
