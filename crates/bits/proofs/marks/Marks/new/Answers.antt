use Rattle.bits.specs.declared.marks.TheConstants.{WORDS}
use Rattle.bits.proofs.WordBits.{marked_none, count_none}
use Rattle.bits.proofs.marks.Marks.new.Goals as goal

pub returns : goal.returns
returns c = record { none = marked_none WORDS; counts = count_none WORDS }
