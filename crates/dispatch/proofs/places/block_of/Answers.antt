use Rattle.std.proofs.Common.{arith}
use Rattle.std.proofs.lemmas.Bool.Decides.{nat_tests}
use Rattle.shelf.proofs.Looks.{find_bound}
use Rattle.dispatch.proofs.places.block_of.Goals as goal

pub returns : goal.returns
returns c =
    let l = find_bound c.args.shelf.now c.args.owner in
    let f = c.find_block.ensures in
    let u = c.unwrap_or.ensures in
    grind (arith, nat_tests)
