use Rattle.std.proofs.Common.{◌+◌, rules, tests, arith}
use Rattle.std.proofs.lemmas.Iterator.{YieldsList-from_slice}
use Rattle.std.proofs.lemmas.Iterator.Adapters.{fits_from_length, at_most_from_yields_List}
use Rattle.bits.specs.Marks.{count}
use Rattle.bits.specs.declared.marks.TheConstants.{WORDS}
use Rattle.bits.specs.declared.marks.TheConstants.Marks.{PLACES}
use Rattle.bits.proofs.marks.Marks.count.Goals as goal

pub sum-requires-clause-fits : goal.sum-requires-clause-fits
sum-requires-clause-fits c =
    fits_from_length _ _ WORDS _ (at_most_from_yields_List (YieldsList-from_slice c.args.self.now.words cc) (omega arith)) c.map.ensures.closure (omega arith) (λ x r q k. search (rules, tests))

pub returns-clause-value : goal.returns-clause-value
unfolding count
returns-clause-value c = search rules

pub returns-clause-bound : goal.returns-clause-bound
returns-clause-bound c =
    let run = c.sum.ensures.runs tt in
    let few = fits_from_length _ _ WORDS (PLACES + 1) (at_most_from_yields_List (YieldsList-from_slice c.args.self.now.words cc) (omega arith)) c.map.ensures.closure (omega arith) (λ x r q k. search (rules, tests)) run.0 run.0.seen run.1 in
    omega arith
