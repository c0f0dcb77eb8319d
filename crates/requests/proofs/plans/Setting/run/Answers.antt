use Rattle.std.proofs.Common.{◌+◌, arith}
use Rattle.block.proofs.Blocks.{size_is}
use Rattle.requests.proofs.Parts.{lent_long, lent_cell}
use Rattle.requests.proofs.plans.Setting.run.Goals as goal

pub set_row_cell-requires-clause-inside : goal.set_row_cell-requires-clause-inside
set_row_cell-requires-clause-inside c =
    let p = c.args.self in
    omega (arith, lent_long c.args.shelf.now p.place p.size c.requires.inside, size_is p.cell, c.requires.fits)

pub set_row_cell-requires-clause-small : goal.set_row_cell-requires-clause-small
set_row_cell-requires-clause-small c =
    let p = c.args.self in
    let s = size_is p.cell in
    let here = lent_cell c.args.shelf.now p.place p.size (3 + p.cell) (omega (arith, c.requires.fits)) in
    let small = rw s at c.requires.small in
    omega arith
