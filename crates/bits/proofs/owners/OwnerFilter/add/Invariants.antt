use Rattle.std.proofs.Common.{◌≡◌, ℕ, ◌<◌, true}
use Rattle.bits.specs.Marks.{marked}
use Rattle.bits.specs.Filter.{slot}
use Rattle.bits.proofs.owners.OwnerFilter.add.Given as goal

-- the bits so far are set, and none was cleared
abbrev pub invariant-loop-k : goal.invariant-loop-k
invariant-loop-k l = record {
  set : (k : ℕ) → k < l.k → marked l.self.words (slot l.owner k) ≡ true;
  kept : (p : ℕ) → marked l.initial.self.words p ≡ true → marked l.self.words p ≡ true;
}
