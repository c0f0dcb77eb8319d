use Rattle.std.proofs.Common.{arith}
use Rattle.std.proofs.lemmas.Grind.{common_steps}
use Rattle.std.proofs.lemmas.Nat.Bits.{shr_and_one}
use Rattle.std.proofs.lemmas.Option.{gets}
use Rattle.bits.specs.Marks.{marked}
use Rattle.bits.proofs.WordBits.{marked_past}
use Rattle.bits.proofs.words.bit_at.Goals as goal

pub returns : goal.returns
unfolding marked
returns c = grind (arith, common_steps, gets, shr_and_one, marked_past c.args.words.now c.args.place)
