-- What a checksum sees of a hit. Each statement is the contract of a function.
use Rattle.std.specs.Prelude.{◌≡◌, ℕ, ◌*◌, ◌%◌, ◌<◌, true, false, List, length, ◌≢◌}
use Rattle.block.specs.Cell.{limit}
use Rattle.block.specs.Block.{at, long, block, in_block}

-- the number by which checksums are taken is a prime: no product of two numbers between it and nought is a multiple of it
abbrev pub LimitIsPrime : Type 0
LimitIsPrime = (m n : ℕ) → 0 < m → m < limit → 0 < n → n < limit → (m * n) % limit ≢ 0

-- no other cell of the block that stands in a at i became another in b
abbrev pub UnharmedBut : (a b : List ℕ) (i k : ℕ) → Type 0
UnharmedBut a b i k = (n : ℕ) → in_block a i n → (n ≢ k) → at b n ≡ at a n

-- a block of which one cell became another, whichever and whatever, does not stand, unless its first cell tells another length then
abbrev pub OneHitSeen : Type 0
OneHitSeen =
    (a b : List ℕ) (i k : ℕ) → block a i ≡ true → length b ≡ length a → in_block a i k → UnharmedBut a b i k → (at b k ≢ at a k) →
    long b i ≡ long a i → block b i ≡ false
