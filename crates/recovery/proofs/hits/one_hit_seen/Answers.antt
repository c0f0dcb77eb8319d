use Rattle.recovery.proofs.OneHit.{one_hit_seen}
use Rattle.recovery.proofs.hits.one_hit_seen.Goals as goal

pub returns : goal.returns
returns c = one_hit_seen
