use Rattle.std.proofs.Common.{rules, tests}
use Rattle.bits.specs.Marks.{marked}
use Rattle.recovery.proofs.Ranges.{first_in_range}
use Rattle.recovery.proofs.mending.next_marked.Goals as goal

pub returns : goal.returns
returns c =
    let h = first_in_range (marked c.args.marks.now.words) c.args.from c.args.end _ _ c.find.result c.find.ensures.ran (λ p b q k. search (rules, tests)) in
    record { some = h.0; none = h.1 }
