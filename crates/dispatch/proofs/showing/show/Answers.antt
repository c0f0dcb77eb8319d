use Rattle.std.proofs.Common.{◌≡◌, ◌+◌, cond, leb, [], length, sym, refl, inl, inr, arith, rules}
use Rattle.std.proofs.lemmas.Bool.Decides.{nat_tests}
use Rattle.block.specs.Block.{size, content}
use Rattle.shelf.specs.Walk.{find}
use Rattle.requests.proofs.Holding.{holds_none, row_held}
use Rattle.requests.proofs.Planned.{admitted_is, look_mapped}
use Rattle.dispatch.specs.Showing.{show_refusal}
use Rattle.dispatch.proofs.showing.show.Goals as goal

pub returns : goal.returns
returns c =
    let a = c.args.shelf.now in
    let w = c.args.whose in
    let s = admitted_is a w _ c.in_ok-admit.ensures in
    let z : show_refusal a w ≡ 0 = grind (arith, nat_tests) in
    elim (look_mapped a (find a w) c.find_block.result c.map.result _ c.find_block.ensures c.map.ensures.cases) [
      | inl h ↦
          let row : h.1.0.now ≡ cond (leb (find a w + size a (find a w)) (length a)) (content a (find a w)) [] = let k = h.1.2 in search rules in
          rw h.1.1 (z, row_held a w (find a w) h.1.0.now (sym s.0) refl h.0 row)
      | inr h ↦ rw h.1 (z, holds_none a w h.0)
    ]
