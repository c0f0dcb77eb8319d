use Rattle.text.specs.Left.{words_left}
use Rattle.text.proofs.Counts.{Sofar}
use Rattle.text.proofs.numbers.numbers.Given as goal

abbrev pub invariant-loop-place : goal.invariant-loop-place
invariant-loop-place g l = Sofar g.row.N (words_left l.fn.words) (words_left l.words) l.place-index l.place-items
