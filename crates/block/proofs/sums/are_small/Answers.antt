use Rattle.std.proofs.Common.{◌≡◌, max, fold, rules, ap, ◌∙◌, ltb}
use Rattle.block.specs.Cell.{limit}
use Rattle.block.proofs.Rows.{largest_small}
use Rattle.block.proofs.sums.are_small.Goals as goal

pub returns : goal.returns
returns c =
    let largest : c.fold.result ≡ fold (λ m x. max m x) 0 c.args.cells.now = search rules in
    ap (λ n. ltb n limit) largest ∙ largest_small 0 c.args.cells.now
