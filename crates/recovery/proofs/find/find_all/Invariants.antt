use Rattle.std.proofs.Common.{◌≡◌}
use Rattle.recovery.specs.Search.{SoFar}
use Rattle.recovery.proofs.find.find_all.Given as goal

abbrev pub invariant-loop-place : goal.invariant-loop-place
invariant-loop-place l =
    record { same : l.place-iterator.shelf.now ≡ l.shelf; so_far : SoFar l.shelf l.marks.words l.owners.words l.place-iterator.at }
