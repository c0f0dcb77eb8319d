use Rattle.std.proofs.Common.{◌+◌, ◌<◌, length, get_or, arith, rules}
use Rattle.std.proofs.lemmas.List.Sums.{sum_by-drop_more}
use Rattle.block.proofs.Rows.{weighed_more, weighed_all, product_bound}
use Rattle.block.proofs.sums.chunk_sums.Goals as goal

pub loop-i-preserved : goal.loop-i-preserved
loop-i-preserved c =
    let xs = c.args.chunk.now in
    let i = c.loop-i.i in
    let lt : i < length xs = omega arith in
    let x : get_or xs i 0 < 4294967296 = search rules in
    let b = product_bound (i + 1) (get_or xs i 0) 64 4294967295 (omega arith) (omega arith) in
    let s = sum_by-drop_more (λ y. y) xs i 0 lt in
    let w = weighed_more i xs i lt in
    (omega arith, omega arith, omega arith, omega arith)

pub returns-clause-weighted : goal.returns-clause-weighted
returns-clause-weighted c = let w = weighed_all c.loop-i.i c.args.chunk.now c.loop-i.i (omega arith) in omega arith
