use Rattle.std.proofs.Common.{arith}
use Rattle.bits.proofs.WordBits.{marks_place}
use Rattle.bits.proofs.words.set_bit.Goals as goal

pub returns-then-word-words-clause-within : goal.returns-then-word-words-clause-within
returns-then-word-words-clause-within c = λ l. marks_place c.args.words.now c.args.place (omega arith)
