use Rattle.std.proofs.Common.{◌≡◌, ◌+◌, ◌*◌, ◌≤◌, drop, sum}
use Rattle.block.specs.Block.{weighed}
use Rattle.block.proofs.sums.chunk_sums.Given as goal

-- both sums so far and those of what is left make the whole, and each cell adds no more than its bound
abbrev pub invariant-loop-i : goal.invariant-loop-i
invariant-loop-i l =
    (l.sums.plain + sum (drop l.i l.chunk) ≡ sum l.chunk)
    × (l.sums.plain ≤ 4294967295 * l.i)
    × (l.sums.weighted + weighed l.i (drop l.i l.chunk) ≡ weighed 0 l.chunk)
    × (l.sums.weighted ≤ 274877906944 * l.i)
