use Rattle.std.proofs.Common.{sym, ap, ◌∙◌, rules}
use Rattle.std.proofs.lemmas.Bool.{eqb-false}
use Rattle.text.specs.Spelling.{with_digit}
use Rattle.text.proofs.Folds.{folded, folded_from_try_fold}
use Rattle.text.proofs.Spells.{spelled_folded}
use Rattle.text.proofs.numbers.number.Goals as goal

pub returns : goal.returns
returns c =
    let some = eqb-false _ _ (sym c.if-is_empty.ensures) in
    folded_from_try_fold _ _ with_digit _ (λ n x v q k. search rules) _ _ _ _ c.try_fold.ensures.ran
    ∙ ap (folded with_digit 0) c.iter.ensures.rest
    ∙ spelled_folded c.args.word.now some
