use Rattle.recovery.proofs.Prime.{limit_is_prime}
use Rattle.recovery.proofs.hits.limit_is_prime.Goals as goal

pub returns : goal.returns
returns c = limit_is_prime
