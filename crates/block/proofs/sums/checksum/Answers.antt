use Rattle.std.proofs.Common.{◌≡◌, ◌+◌, length, min, ◌++◌, ap, ◌∙◌, arith}
use Rattle.std.specs.Slice.Iter.{chunks_rest, chunks_size}
use Rattle.block.specs.Block.{sum_of, weighed}
use Rattle.block.proofs.Rows.{weighed_behind, weighed_mod, weighed_all}
use Rattle.block.proofs.sums.checksum.Goals as goal

pub loop-chunk-init : goal.loop-chunk-init
unfolding sum_of
loop-chunk-init c =
    let size = ap chunks_size c.into_iter-chunk-iterator.ensures.into_iter_gives ∙ c.chunks-chunk-items.ensures.size in
    let rest = ap chunks_rest c.into_iter-chunk-iterator.ensures.into_iter_gives ∙ c.chunks-chunk-items.ensures.rest in
    (omega arith, tt, size, omega arith, omega arith, rw rest (omega arith))

pub loop-chunk-preserved : goal.loop-chunk-preserved
loop-chunk-preserved c =
    let k = c.loop-chunk.weight in
    let x = c.in-Some.chunk.now in
    let behind = chunks_rest c.next.new.self in
    let step = c.in-Some.ensures.steps in
    let l = ap length step.1.0 in
    let len : length x ≡ min 64 (length (x ++ behind)) = omega arith in
    let cut = ap (weighed k) step.1.0 ∙ weighed_behind k 64 x behind len in
    let m = weighed_mod behind (k + 64) in
    (omega arith, tt, omega arith, omega arith, omega arith, omega arith)

pub returns : goal.returns
returns c =
    let step = c.in-None.ensures.steps in
    let none = weighed_all c.loop-chunk.weight (chunks_rest c.loop-chunk.chunk-iterator) 0 (omega arith) in
    omega arith
