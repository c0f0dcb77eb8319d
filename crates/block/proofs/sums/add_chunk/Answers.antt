use Rattle.std.proofs.Common.{arith}
use Rattle.block.proofs.Rows.{weighed_from}
use Rattle.block.proofs.sums.add_chunk.Goals as goal

pub returns : goal.returns
returns c =
    let f = weighed_from c.args.chunk.now c.args.weight in
    let g = rw (← c.chunk_sums-sums.ensures.plain, ← c.chunk_sums-sums.ensures.weighted) at f in
    omega (arith, c.product.ensures.value)
