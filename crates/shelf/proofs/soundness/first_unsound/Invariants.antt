use Rattle.std.proofs.Common.{◌≡◌}
use Rattle.shelf.proofs.Meets.{Met, Checking}
use Rattle.shelf.proofs.soundness.first_unsound.Given as goal

abbrev pub invariant-loop-item : goal.invariant-loop-item
invariant-loop-item l = record {
  can : (goal.iterator-loop-item).can_next l.item-iterator;
  ends : (goal.iterator-loop-item).is_finite l.item-iterator;
  same : l.item-iterator.shelf.now ≡ l.shelf;
  met : Met l.shelf l.item-iterator.at l.owners.words;
  checking : Checking l.shelf l.item-iterator.at;
}
