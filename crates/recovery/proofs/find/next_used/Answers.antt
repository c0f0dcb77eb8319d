use Rattle.std.proofs.Common.{length, rules, tests}
use Rattle.block.specs.Block.{used}
use Rattle.recovery.proofs.Ranges.{first_in_range}
use Rattle.recovery.proofs.find.next_used.Goals as goal

pub returns : goal.returns
returns c =
    let h = first_in_range (used c.args.shelf.now) c.args.i (length c.args.shelf.now) _ _ c.find.result c.find.ensures.ran (λ p b q k. search (rules, tests)) in
    record { some = h.0; none = h.1 }
