use Rattle.shelf.proofs.Places.{no_sharing}
use Rattle.shelf.proofs.laws.sound_shares_no_cell.Goals as goal

pub returns : goal.returns
returns c = no_sharing
