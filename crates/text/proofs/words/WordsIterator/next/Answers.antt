use Rattle.std.proofs.Common.{sym, arith, rules}
use Rattle.std.proofs.lemmas.Bool.{eqb-true, eqb-false}
use Rattle.text.specs.Cut.{First}
use Rattle.text.proofs.Cuts.{words_none, first_word}
use Rattle.text.proofs.words.WordsIterator.next.Goals as goal

pub returns-then-is_empty-clause-steps : goal.returns-then-is_empty-clause-steps
returns-then-is_empty-clause-steps c =
    let empty = eqb-true _ _ (sym c.if-is_empty.ensures) in
    let none = words_none c.args.self.now.rest.now (omega (arith, c.run.ensures.value, c.run.ensures.bound, c.split_at.ensures.back_len)) in
    (none, none)

pub returns : goal.returns
returns c =
    let some = eqb-false _ _ (sym c.if-is_empty.ensures) in
    let cut : First c.args.self.now.rest.now c.split_at-2.result.0.now c.split_at-2.result.1.now =
    first_word _ _ _ _ _ _ c.run.ensures.value c.split_at.ensures.back some c.run-2.ensures.value c.split_at-2.ensures.front c.split_at-2.ensures.back in
    record { steps = cut; goes = search rules }
