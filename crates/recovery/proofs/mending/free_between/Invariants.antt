use Rattle.std.proofs.Common.{◌-◌}
use Rattle.recovery.specs.Mend.{HalfMended}
use Rattle.recovery.proofs.mending.free_between.Given as goal

abbrev pub invariant-loop-place : goal.invariant-loop-place
invariant-loop-place l = HalfMended l.initial.shelf l.shelf l.gap l.gap

abbrev pub decreases-loop-place : goal.decreases-loop-place
decreases-loop-place l = l.end - l.gap
