use Rattle.shelf.specs.Walk.{find}
use Rattle.shelf.proofs.Seeking.{on_shelf_none}
use Rattle.requests.proofs.Holding.{place_is, holds_none, row_here}
use Rattle.requests.proofs.entries.view.Goals as goal

pub returns : goal.returns
returns c =
    let a = c.args.shelf.now in
    let w = c.args.whose in
    let p = place_is a c.in-Some.place (find a w) c.in-Some.ensures in
    row_here a w _ _ c.if-not-is_usable.ensures p.0 p.1 c.row_at.ensures

pub returns-in_default : goal.returns-in_default
returns-in_default c =
    let a = c.args.shelf.now in
    let w = c.args.whose in
    let h = holds_none a w (on_shelf_none a (find a w) c.in_default.ensures) in
    let u = c.if-not-is_usable.ensures in
    rw (← u, h)
