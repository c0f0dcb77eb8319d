use Rattle.block.proofs.Writings.{row_cell_set}
use Rattle.block.proofs.writes.set_row_cell.Goals as goal

pub returns : goal.returns
returns c = λ u w r e. row_cell_set c.args.part.now u w r c.args.cell c.args.to e c.requires.inside c.requires.small
