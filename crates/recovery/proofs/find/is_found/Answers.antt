use Rattle.std.proofs.Common.{rules, tests}
use Rattle.recovery.proofs.Ranges.{any_in_chunks}
use Rattle.recovery.proofs.find.is_found.Goals as goal

pub returns : goal.returns
returns c =
    any_in_chunks c.args.marks.now.words c.args.shelf.now c.args.owner _ c.args.end c.step_by.result c.any.result c.step_by.ensures.runs c.any.ensures.runs
    (λ x b q k. search (rules, tests)) (λ x b k. search (rules, tests))
