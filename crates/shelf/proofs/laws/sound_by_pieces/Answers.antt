use Rattle.shelf.proofs.Sounds.{by_pieces}
use Rattle.shelf.proofs.laws.sound_by_pieces.Goals as goal

pub returns : goal.returns
returns c = by_pieces
