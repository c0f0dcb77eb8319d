use Rattle.std.proofs.Common.{nat_lt, ap, ◌∙◌, arith, rules, tests}
use Rattle.std.proofs.lemmas.Iterator.Consumers.{YieldsList-from_filter, fold_from_yields_List}
use Rattle.std.proofs.lemmas.Iterator.Search.{YieldsList-from_take_while}
use Rattle.std.specs.Iterator.Adapters.{take_while_done, take_while_callee}
use Rattle.shelf.specs.Standing.{place_of}
use Rattle.shelf.proofs.Items.{walk_gives}
use Rattle.requests.proofs.Idle.{behind, is_busy, start_along}
use Rattle.requests.proofs.planning.idle_start_of.Goals as goal

pub returns : goal.returns
returns c =
    let a = c.args.shelf.now in
    fold_from_yields_List _ behind 0 c.fold.result c.fold.ensures.ran
    (YieldsList-from_filter _ is_busy
    (YieldsList-from_take_while _ (λ x. nat_lt (place_of x) c.args.end) (walk_gives a 0 (cc) (cc)) (ap take_while_callee c.filter.ensures.source ∙ c.take_while.ensures.closure) (ap take_while_done c.filter.ensures.source ∙ c.take_while.ensures.done) (λ x b q k. search (rules, tests)))
    c.filter.ensures.closure (λ x b q k. search (rules, tests))) (λ n x m q k. search rules)
    ∙ start_along a (omega arith) (λ i. let h = c.type_inv.shelf i in omega (arith, h)) c.args.end c.requires
