use Rattle.requests.proofs.Undo.{give_undoes_take}
use Rattle.requests.proofs.laws.giving_undoes_taking.Goals as goal

pub returns : goal.returns
returns c = give_undoes_take
