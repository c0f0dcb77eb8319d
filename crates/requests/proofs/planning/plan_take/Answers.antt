use Rattle.std.proofs.Common.{◌≡◌, arith, rules}
use Rattle.std.proofs.lemmas.Bool.Decides.{nat_tests}
use Rattle.requests.specs.Entry.{take_refusal}
use Rattle.requests.proofs.Holding.{is_held_is}
use Rattle.requests.proofs.Planned.{admitted_is, refused_plan, take_planned}
use Rattle.requests.proofs.planning.plan_take.Goals as goal

pub returns-then-is_some : goal.returns-then-is_some
returns-then-is_some c =
    let a = c.args.shelf.now in
    let w = c.args.whose in
    let s = admitted_is a w _ c.in_ok-owner.ensures in
    let h = is_held_is a w in
    let k = c.find_block.ensures in
    refused_plan (take_refusal a w c.args.long) 2 _ (grind (arith, nat_tests))

pub returns-then-long : goal.returns-then-long
returns-then-long c =
    let a = c.args.shelf.now in
    let w = c.args.whose in
    let s = admitted_is a w _ c.in_ok-owner.ensures in
    let h = is_held_is a w in
    let k = c.find_block.ensures in
    refused_plan (take_refusal a w c.args.long) 3 _ (grind (arith, nat_tests))

pub returns : goal.returns
returns c =
    let a = c.args.shelf.now in
    let w = c.args.whose in
    let s = admitted_is a w _ c.in_ok-owner.ensures in
    let h = is_held_is a w in
    let k = c.find_block.ensures in
    let z : take_refusal a w c.args.long ≡ 0 = grind (arith, nat_tests) in
    take_planned a w c.args.long c.find_room.result c.map.result _ z c.find_room.ensures.place c.map.ensures.cases (λ x t l. search rules)
