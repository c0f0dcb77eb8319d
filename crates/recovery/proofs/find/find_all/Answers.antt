use Rattle.std.proofs.Common.{sym, subst, ◌∙◌, arith}
use Rattle.std.proofs.lemmas.Bool.{both_ways}
use Rattle.block.specs.Block.{whose}
use Rattle.recovery.specs.Search.{MarkedAs, SoFar}
use Rattle.recovery.proofs.Search.{same_next, next_within, far_next, far_skip, far_found, far_end, found_again, found_new, filter_new}
use Rattle.recovery.proofs.find.find_all.Goals as goal
use Rattle.recovery.proofs.find.find_all.Goals.{then-not-may_have-via-then-not-may_have, then-not-may_have-via-else-not-may_have+then-not-is_found}

pub bounds-shelf-place : goal.bounds-shelf-place
bounds-shelf-place c = let n = next_within c.loop-place.invariant.same c.in-Some.ensures.steps in omega arith

pub overflow_add-owner : goal.overflow_add-owner
overflow_add-owner c = let n = next_within c.loop-place.invariant.same c.in-Some.ensures.steps in omega arith

pub offset_bounds-shelf-place : goal.offset_bounds-shelf-place
offset_bounds-shelf-place c = let n = next_within c.loop-place.invariant.same c.in-Some.ensures.steps in omega arith

pub is_found-requires : goal.is_found-requires
is_found-requires c = let n = next_within c.loop-place.invariant.same c.in-Some.ensures.steps in omega arith

pub loop-place-preserved-in-loop-place : goal.loop-place-preserved-in-loop-place
loop-place-preserved-in-loop-place c =
    let a = c.args.shelf.now in
    let p = c.in-Some.place in
    let ms = c.loop-place.marks.words in
    let fs = c.loop-place.owners.words in
    let n = same_next c.loop-place.invariant.same c.in-Some.ensures.steps in
    let far = far_next a ms fs _ c.loop-place.invariant.so_far p n.first.0 n.first.2 in
    let new : MarkedAs ms a (whose a p) 0 p → ⊥ = elim c.then-not-may_have.branch [
      | then-not-may_have-via-then-not-may_have w ↦ filter_new a ms fs p far (sym c.may_have.ensures ∙ w.if-not-may_have.true)
      | then-not-may_have-via-else-not-may_have+then-not-is_found w ↦ λ r. both_ways _ w.if-not-is_found.true (w.is_found.ensures.1 r)
    ] in
    let f = next_within c.loop-place.invariant.same c.in-Some.ensures.steps in
    let e = found_new a ms fs p far n.first.1 new in
    record {
      same = n.same;
      so_far = subst (λ j. SoFar a c.mark.new.self.words c.add.new.self.words j) (sym n.first.3) (far_found a ms fs p far c.mark.new.self.words c.add.new.self.words e (c.mark.ensures.within (omega arith)) c.add.ensures);
    }

pub loop-place-preserved : goal.loop-place-preserved
loop-place-preserved c =
    let a = c.args.shelf.now in
    let p = c.in-Some.place in
    let ms = c.loop-place.marks.words in
    let fs = c.loop-place.owners.words in
    let n = same_next c.loop-place.invariant.same c.in-Some.ensures.steps in
    let far = far_next a ms fs _ c.loop-place.invariant.so_far p n.first.0 n.first.2 in
    let e = found_again a ms fs p far _ (c.is_found.ensures.0 c.if-not-is_found.false) in
    record { same = n.same; so_far = subst (λ j. SoFar a ms fs j) (sym n.first.3) (far_skip a ms fs p far n.first.1 e) }

pub returns-clause-all : goal.returns-clause-all
returns-clause-all c =
    let a = c.args.shelf.now in
    let n = same_next c.loop-place.invariant.same c.in-None.ensures.steps in
    record { places = far_end a c.loop-place.marks.words c.loop-place.owners.words _ c.loop-place.invariant.so_far n.first; counts = c.count.ensures.value }
