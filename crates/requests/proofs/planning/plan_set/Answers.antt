use Rattle.std.proofs.Common.{◌≡◌, ℕ, ◌<◌, true, cond, ltb, List, Some, sym, refl, ◌∙◌, arith}
use Rattle.std.proofs.lemmas.Bool.{lt-ltb, le-ltb}
use Rattle.std.proofs.lemmas.Bool.Decides.{nat_tests}
use Rattle.block.specs.Cell.{limit}
use Rattle.block.specs.Block.{long}
use Rattle.shelf.specs.Walk.{find, on_shelf}
use Rattle.shelf.proofs.Seeking.{on_shelf_none}
use Rattle.requests.specs.Entry.{usable, set_refusal}
use Rattle.requests.proofs.Holding.{place_is, held_here, held_not, within_here}
use Rattle.requests.proofs.Planned.{small_is, admitted_is, none_held, refused_plan, set_planned}
use Rattle.requests.proofs.planning.plan_set.Goals as goal

pub returns-in_err-place : goal.returns-in_err-place
returns-in_err-place c =
    let a = c.args.shelf.now in
    let w = c.args.whose in
    let s = admitted_is a w _ c.in_ok-admit.ensures in
    let t = small_is c.args.to _ c.in_ok-to.ensures in
    let e = c.in_err-place.ensures in
    let h = held_not a w (on_shelf_none a (find a w) (sym e.ok_part ∙ c.find_block.ensures)) in
    none_held _ _ _ c.from_residual-in_err-place.ensures.1 e.value e.ok_part ∙ refused_plan (set_refusal a w c.args.cell c.args.to) 4 _ (grind (arith, nat_tests))

-- the refusal, where somebody holds a row
refusal_here : (a : List ℕ) (w k x p l : ℕ) → usable a ≡ true → w < limit → x < limit → Some p ≡ on_shelf a (find a w) → l ≡ long a p → set_refusal a w k x ≡ cond (ltb k l) 0 4
refusal_here a w k x p l u o n f e =
    let q = place_is a p (find a w) f in
    let h = held_here a w q.1 in
    let i = within_here a w k p l u q.0 q.1 e in
    rw (u, lt-ltb w limit o, lt-ltb x limit n, h, i) refl

pub returns-then-cell-row_length : goal.returns-then-cell-row_length
returns-then-cell-row_length c =
    let a = c.args.shelf.now in
    let s = admitted_is a c.args.whose _ c.in_ok-admit.ensures in
    let t = small_is c.args.to _ c.in_ok-to.ensures in
    let f = sym c.in_ok-place.ensures.ok_part ∙ c.find_block.ensures in
    let e = refusal_here a c.args.whose c.args.cell c.args.to c.in_ok-place.place c.row_length.result s.0 s.1 t.0 f c.row_length.ensures.value in
    refused_plan (set_refusal a c.args.whose c.args.cell c.args.to) 3 _ (e ∙ rw (le-ltb c.args.cell c.row_length.result (omega arith)))

pub returns : goal.returns
returns c =
    let a = c.args.shelf.now in
    let s = admitted_is a c.args.whose _ c.in_ok-admit.ensures in
    let t = small_is c.args.to _ c.in_ok-to.ensures in
    let f = sym c.in_ok-place.ensures.ok_part ∙ c.find_block.ensures in
    let e = refusal_here a c.args.whose c.args.cell c.args.to c.in_ok-place.place c.row_length.result s.0 s.1 t.0 f c.row_length.ensures.value in
    rw t.1 (set_planned a c.args.whose _ _ _ _ (e ∙ rw (lt-ltb c.args.cell c.row_length.result (omega arith))) (place_is a c.in_ok-place.place (find a c.args.whose) f).0 c.block_size.ensures.value)
