use Rattle.std.proofs.Common.{◌∙◌, arith, rules, tests}
use Rattle.std.proofs.lemmas.Iterator.Consumers.{fold_from_yields_List}
use Rattle.std.proofs.lemmas.Iterator.Search.{YieldsList-from_take_while}
use Rattle.shelf.specs.Standing.{is_idle}
use Rattle.shelf.proofs.Items.{walk_gives}
use Rattle.requests.proofs.Idle.{behind, end_along}
use Rattle.requests.proofs.planning.idle_end_of.Goals as goal

pub returns : goal.returns
returns c =
    let a = c.args.shelf.now in
    let b = c.args.begin in
    fold_from_yields_List _ behind b c.fold.result c.fold.ensures.ran
    (YieldsList-from_take_while _ is_idle (walk_gives a b (cc) (cc)) c.take_while.ensures.closure c.take_while.ensures.done (λ x r q k. search (rules, tests))) (λ n x m q k. search rules)
    ∙ end_along a (omega arith) (λ i. let h = c.type_inv.shelf i in omega (arith, h)) b
