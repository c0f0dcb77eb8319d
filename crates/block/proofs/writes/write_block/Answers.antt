use Rattle.std.proofs.Common.{◌-◌, length, arith}
use Rattle.block.proofs.Cells.{first_cell_live}
use Rattle.block.proofs.Writings.{wrote_first}
use Rattle.block.proofs.writes.write_block.Goals as goal

pub invariant_of-from : goal.invariant_of-from
invariant_of-from c = record { live = first_cell_live _ _ (omega arith) }

pub returns : goal.returns
returns c =
    wrote_first c.args.in_use c.args.owner (length c.args.part.now - 3) _ _ _ c.from-first.ensures.value c.write_behind_first.ensures
