use Rattle.std.proofs.Common.{◌≡◌, Ok, ap, ◌∙◌}
use Rattle.block.specs.Block.{content}
use Rattle.requests.specs.Plans.{set_to, after}
use Rattle.requests.proofs.Says.{set_says, set_fits, set_part}
use Rattle.requests.proofs.entries.set_cell.Goals as goal

pub run-requires : goal.run-requires
run-requires c = set_fits c.args.shelf.now c.args.whose c.args.cell c.args.to c.in_ok-plan_set.field-0 c.in_ok-plan_set.ensures

-- the part that is lent is the block, so the run writes what the definitions say
wrote : (c : goal.After-slice_known-2-1) → c.run.new.shelf ≡ set_to c.in_ok-plan_set.field-0 c.args.whose c.args.shelf.now
wrote c =
    let p = c.in_ok-plan_set.field-0 in
    let a = c.args.shelf.now in
    c.run.ensures c.args.whose (content a p.place) (set_part a c.args.whose c.args.cell c.args.to p c.in_ok-plan_set.ensures)

pub returns-clause-cells : goal.returns-clause-cells
returns-clause-cells c = wrote c ∙ ap (λ r. after (λ p b. set_to p c.args.whose b) r c.args.shelf.now) c.in_ok-plan_set.ensures

pub returns-clause-says : goal.returns-clause-says
returns-clause-says c = rw (wrote c) (set_says c.args.shelf.now c.args.whose c.args.cell c.args.to (Ok c.in_ok-plan_set.field-0) c.in_ok-plan_set.ensures)
