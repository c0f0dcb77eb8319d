use Rattle.std.proofs.Common.{get_or-drop, length-drop, refl, ◌∙◌, arith}
use Rattle.std.proofs.lemmas.Bool.Decides.{nat_tests}
use Rattle.block.specs.Block.{size_for}
use Rattle.block.proofs.Places.{rest_is, head_at, row_from}
use Rattle.block.proofs.stands.row_at.Goals as goal

pub returns-in_default : goal.returns-in_default
unfolding size_for
returns-in_default c = grind (arith, nat_tests, get_or-drop, length-drop)

pub returns : goal.returns
returns c =
    let l = c.in-Some-len3-up.ensures.lookup.0 in
    let h = head_at c.args.shelf.now c.args.i c.in-Some-len3-up.field-0.now l.0 (l.2 ∙ rest_is c.args.shelf.now c.args.i) in
    rw c.unwrap_or.ensures (row_from _ _ _ c.row_length.result c.get-2.result _ h c.in-Some-len3-up.len_at_least c.row_length.ensures.value c.get-2.ensures.lookup refl)
