use Rattle.std.proofs.Common.{◌≤◌, sym, ◌∙◌}
use Rattle.shelf.specs.Walk.{find}
use Rattle.shelf.proofs.Items.{in_use_there}
use Rattle.shelf.proofs.Meets.{not_seen, unknown, not_met}
use Rattle.shelf.proofs.spot.Spot.is_met_before.Goals as goal
use Rattle.shelf.proofs.spot.Spot.is_met_before.Goals.{then-may_have, else-may_have}

pub returns-else-has_cell : goal.returns-else-has_cell
returns-else-has_cell c =
    let a = c.args.self.now.shelf.now in
    let p = c.in-InUse.place in
    let v = c.in-InUse.owner in
    let s = in_use_there a p v c.in-InUse.length (rw c.in-InUse.is at c.args.self.now.stands) in
    let behind : p ≤ find a v = elim c.if-may_have.branch [
      | then-may_have w ↦ not_seen a v p s.0 (sym w.has_cell.ensures ∙ sym w.value-is ∙ c.if-has_cell.false)
      | else-may_have w ↦ unknown a p c.args.owners.now.words v (rw c.in-InUse.is at c.requires) w.if-may_have.ensures
    ] in
    c.if-has_cell.false ∙ rw c.in-InUse.is (sym (not_met a p v s.3 behind))
