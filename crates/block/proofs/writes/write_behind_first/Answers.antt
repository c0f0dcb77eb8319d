use Rattle.std.proofs.Common.{◌-◌, ◌∷◌, length, get_or, replicate, ap, ◌∙◌}
use Rattle.block.proofs.Writings.{sum_noughts, lent_long, wrote_behind}
use Rattle.block.proofs.writes.write_behind_first.Goals as goal

pub returns : goal.returns
returns c =
    let p = c.args.part.now in
    let w = c.args.owner in
    let s = c.checksum.result in
    let sum = c.checksum.ensures ∙ sum_noughts c.args.first w (length p - 3) in
    let row = c.fill_cells.ensures ∙ ap (λ n. replicate n 0) (lent_long p w s c.requires) in
    wrote_behind p w s c.fill_cells.new.part c.requires ∙ (λ j. get_or p 0 0 ∷ w ∷ sum j ∷ row j)
