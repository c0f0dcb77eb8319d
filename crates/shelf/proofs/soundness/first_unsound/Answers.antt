use Rattle.std.proofs.Common.{Some, sym, ap, ◌∙◌, arith}
use Rattle.shelf.specs.Walk.{next}
use Rattle.shelf.specs.Standing.{end_of}
use Rattle.shelf.proofs.Items.{stepped, stopped, end_of_item}
use Rattle.shelf.proofs.Meets.{met_starts, met_knows, met_goes_on, checking_starts, checking_goes_on, checking_stops, checking_ends, checked}
use Rattle.shelf.proofs.soundness.first_unsound.Goals as goal

pub loop-item-init : goal.loop-item-init
loop-item-init c =
    let e = c.into_iter-item-iterator.ensures.into_iter_gives in
    let w = c.new-item-items.ensures in
    record {
      can = tt;
      ends = tt;
      same = rw (e, w.shelf);
      met = rw (e, w.at) (met_starts c.args.shelf.now c.new-owners.result.words);
      checking = rw (e, w.at) (checking_starts c.args.shelf.now);
    }

pub invariant_of-spot : goal.invariant_of-spot
invariant_of-spot c =
    let a = c.args.shelf.now in
    let i = c.loop-item.item-iterator.at in
    let s = stepped a c.loop-item.item-iterator c.in-Some.item c.next.new.self c.loop-item.invariant.same c.in-Some.ensures.steps in
    record { stands = s.stands; ends = ap end_of s.item_is ∙ end_of_item a i s.inside (omega arith) (omega (arith, c.type_inv.shelf i)) ∙ ap (next a) (sym s.place_is) }

pub is_sound-requires : goal.is_sound-requires
is_sound-requires c =
    let a = c.args.shelf.now in
    let s = stepped a c.loop-item.item-iterator c.in-Some.item c.next.new.self c.loop-item.invariant.same c.in-Some.ensures.steps in
    rw s.place_is (met_knows a c.loop-item.item-iterator.at c.loop-item.owners.words (omega (arith, s.inside)) c.loop-item.invariant.met)

pub returns-then-not-is_sound : goal.returns-then-not-is_sound
returns-then-not-is_sound c =
    let a = c.args.shelf.now in
    let i = c.loop-item.item-iterator.at in
    let s = stepped a c.loop-item.item-iterator c.in-Some.item c.next.new.self c.loop-item.invariant.same c.in-Some.ensures.steps in
    let h = rw s.place_is at c.if-not-is_sound.ensures in
    let e = ap Some (c.place.ensures ∙ s.place_is) ∙ checking_stops a i s.inside h c.loop-item.invariant.checking in
    record { place = e; test = checked a _ (λ i. omega (arith, c.type_inv.shelf i)) e }

pub loop-item-preserved : goal.loop-item-preserved
loop-item-preserved c =
    let a = c.args.shelf.now in
    let i = c.loop-item.item-iterator.at in
    let s = stepped a c.loop-item.item-iterator c.in-Some.item c.next.new.self c.loop-item.invariant.same c.in-Some.ensures.steps in
    record {
      can = tt;
      ends = tt;
      same = s.same;
      met = met_goes_on a i _ _ _ s.onto s.inside (rw s.place_is at c.note_owner.ensures) c.loop-item.invariant.met;
      checking = checking_goes_on a i _ s.onto s.inside (rw s.place_is at c.if-not-is_sound.ensures) c.loop-item.invariant.checking;
    }

pub returns : goal.returns
returns c =
    let a = c.args.shelf.now in
    let e = checking_ends a c.loop-item.item-iterator.at (stopped a c.loop-item.item-iterator c.next.new.self c.loop-item.invariant.same c.in-None.ensures.steps) c.loop-item.invariant.checking in
    record { place = e; test = checked a _ (λ i. omega (arith, c.type_inv.shelf i)) e }
