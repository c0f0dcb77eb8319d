use Rattle.std.proofs.Common.{arith}
use Rattle.block.proofs.Cells.{first_cell_live}
use Rattle.requests.proofs.Parts.{wrote_taken}
use Rattle.requests.proofs.free.write_taken.Goals as goal

pub invariant_of-from : goal.invariant_of-from
invariant_of-from c = record { live = first_cell_live _ _ (omega arith) }

pub returns : goal.returns
returns c =
    wrote_taken c.args.part.now c.args.long c.args.owner _ c.from-first.result c.write_behind_first.new.part c.write_free.new.part c.requires.fits c.from-first.ensures.value
    c.write_behind_first.ensures c.write_free.ensures
