use Rattle.std.proofs.Common.{◌≡◌, ◌+◌, ◌-◌, true, ◌++◌, sym, ◌∙◌, arith}
use borrow.Rule.Slice.PartMut.{put_mid}
use Rattle.block.specs.Block.{block_cells}
use Rattle.block.proofs.Blocks.{size_is}
use Rattle.requests.specs.Free.{noughts, free_cells}
use Rattle.requests.specs.Plans.{take_part}
use Rattle.requests.proofs.Parts.{lent_long}
use Rattle.requests.proofs.plans.Taking.run.Goals as goal

pub write_taken-requires-clause-fits : goal.write_taken-requires-clause-fits
write_taken-requires-clause-fits c =
    let p = c.args.self in
    omega (arith, lent_long c.args.shelf.now p.place p.size c.requires.inside, size_is p.long, c.requires.fits)

pub returns : goal.returns
returns c =
    let p = c.args.self in
    let a = c.args.shelf.now in
    let k = lent_long a p.place p.size c.requires.inside in
    let s = size_is p.long in
    let n : p.place + p.size - p.place ≡ p.size = omega arith in
    let part : c.write_taken.new.part ≡ take_part p = c.write_taken.ensures ∙ (λ j. block_cells true p.owner (noughts p.long) ++ free_cells (k j - (sym s) j)) in
    (λ j. put_mid p.place (n j) a (part j))
