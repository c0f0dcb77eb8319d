use Rattle.shelf.proofs.Places.{heads_are_places}
use Rattle.shelf.proofs.laws.heads_are_places.Goals as goal

pub returns : goal.returns
returns c = heads_are_places
