use Rattle.std.proofs.Common.{◌≡◌, ℕ, ◌+◌, min, inl, inr, arith}
use Rattle.block.specs.Block.{size_for}
use Rattle.shelf.proofs.walk.Item.end.Goals as goal

sums : (r s p n : ℕ) → s ≡ min (n + 3) 18446744073709551615 → r ≡ min (p + s) 18446744073709551615 → r ≡ min (p + size_for n) 18446744073709551615
unfolding size_for
sums r s p n h k = omega arith

pub returns-in-Free : goal.returns-in-Free
returns-in-Free c =
    let e = sums c.saturating_add-in-Free-2.result c.saturating_add-in-Free.result c.in-Free.place c.in-Free.length c.saturating_add-in-Free.ensures c.saturating_add-in-Free-2.ensures in
    elim c.in-Free.is [ inl h ↦ rw h e | inr h ↦ rw h.1 e ]
