use Rattle.std.proofs.Common.{◌≡◌, ◌+◌, ◌%◌, ◌<◌}
use Rattle.std.specs.Slice.Iter.{chunks_rest, chunks_size}
use Rattle.block.specs.Block.{weighed, sum_of}
use Rattle.block.proofs.sums.checksum.Given as goal

abbrev pub invariant-loop-chunk : goal.invariant-loop-chunk
invariant-loop-chunk l =
    (goal.iterator-loop-chunk).can_next l.chunk-iterator
    × (goal.iterator-loop-chunk).is_finite l.chunk-iterator
    × (chunks_size l.chunk-iterator ≡ 64)
    × (l.sum < 17179869184)
    × (l.weight < 2147483647)
    × ((l.sum + weighed l.weight (chunks_rest l.chunk-iterator)) % 2147483647 ≡ sum_of l.first l.owner l.row)
