use Rattle.shelf.proofs.Places.{nobody_has_two}
use Rattle.shelf.proofs.laws.nobody_has_two.Goals as goal

pub returns : goal.returns
returns c = nobody_has_two
