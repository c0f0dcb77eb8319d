use Rattle.std.proofs.Common.{arith}
use Rattle.std.proofs.lemmas.Bool.{both_ways, false_from_ne_true}
use Rattle.bits.specs.Filter.{slot}
use Rattle.bits.specs.declared.owners.TheConstants.{WORDS}
use Rattle.bits.proofs.WordBits.{marked_none}
use Rattle.bits.proofs.Probes.{may_have_decides}
use Rattle.bits.proofs.owners.OwnerFilter.new.Goals as goal

pub returns : goal.returns
returns c w = false_from_ne_true _ (λ e. both_ways _ (marked_none WORDS (slot w 0)) ((may_have_decides _ w).0 e 0 (omega arith)))
