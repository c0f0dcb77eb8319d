use Rattle.std.proofs.Common.{sym, ◌∙◌}
use Rattle.std.proofs.lemmas.Bool.{both_ways}
use Rattle.recovery.proofs.Chunks.{none_in_chunk}
use Rattle.recovery.proofs.find.is_marked_as.Goals as goal

pub returns-else-has_cell : goal.returns-else-has_cell
returns-else-has_cell c = (
  λ e. absurd (both_ways _ c.if-has_cell.false e),
  λ r. absurd (none_in_chunk c.args.marks.now.words c.args.shelf.now c.args.owner c.args.i c.args.j c.requires.within (sym c.has_cell.ensures ∙ c.if-has_cell.false) r),
)
