use Rattle.std.proofs.Common.{not, ap, ◌∙◌}
use Rattle.shelf.specs.Sound.{idle}
use Rattle.shelf.proofs.Items.{free_there, tidy_free}
use Rattle.shelf.proofs.spot.Spot.is_tidy.Goals as goal

pub returns-in-Free : goal.returns-in-Free
returns-in-Free c =
    let a = c.args.self.now.shelf.now in
    let s = free_there a c.in-Free.place c.in-Free.length (rw c.in-Free.is at c.args.self.now.stands) in
    let e = c.end-behind.ensures ∙ c.args.self.now.ends in
    let n = ap not (c.is_idle-in-Free.ensures ∙ ap (idle a) e) in
    n ∙ rw c.in-Free.is (tidy_free a c.in-Free.place s.0 s.1)
