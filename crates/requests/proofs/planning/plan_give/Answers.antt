use Rattle.std.proofs.Common.{◌≡◌, sym, ◌∙◌, arith}
use Rattle.std.proofs.lemmas.Bool.Decides.{nat_tests}
use Rattle.shelf.specs.Walk.{find}
use Rattle.shelf.proofs.Seeking.{on_shelf_none}
use Rattle.requests.specs.Entry.{give_refusal}
use Rattle.requests.proofs.Holding.{place_is, held_here, held_not}
use Rattle.requests.proofs.Planned.{admitted_is, none_held, refused_plan, give_planned}
use Rattle.requests.proofs.planning.plan_give.Goals as goal

pub returns-in_err-place : goal.returns-in_err-place
returns-in_err-place c =
    let a = c.args.shelf.now in
    let w = c.args.whose in
    let s = admitted_is a w _ c.in_ok-admit.ensures in
    let e = c.in_err-place.ensures in
    let h = held_not a w (on_shelf_none a (find a w) (sym e.ok_part ∙ c.find_block.ensures)) in
    none_held _ _ _ c.from_residual-in_err-place.ensures.1 e.value e.ok_part ∙ refused_plan (give_refusal a w) 4 _ (grind (arith, nat_tests))

pub returns : goal.returns
returns c =
    let a = c.args.shelf.now in
    let w = c.args.whose in
    let s = admitted_is a w _ c.in_ok-admit.ensures in
    let p = place_is a c.in_ok-place.place (find a w) (sym c.in_ok-place.ensures.ok_part ∙ c.find_block.ensures) in
    let h = held_here a w p.1 in
    let z : give_refusal a w ≡ 0 = grind (arith, nat_tests) in
    give_planned a w _ _ _ _ z p.0 c.idle_start_of.ensures c.next_place.ensures c.idle_end_of.ensures
