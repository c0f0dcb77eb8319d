-- A filter of owners: a few bits for each, chosen by a hash. Who was added may be in it; who may not be was never added. Assumes nothing: these are definitions.
use Rattle.std.specs.Prelude.{◌≡◌, ℕ, ◌+◌, ◌*◌, ◌/◌, ◌%◌, ◌^◌, Bool, true, List}
use Rattle.std.specs.List.{list_all, range_with_len}
use Rattle.bits.specs.Marks.{marked}

-- a hash of an owner, of 64 bits: a square and a product
unfoldable pub hash : (owner : ℕ) → ℕ
hash w = let root = w * 11400714819323198485 % 2 ^ 64 / 2 ^ 32 in (root * root % 2 ^ 64 + w * 10723151780598845931 % 2 ^ 64) % 2 ^ 64

-- the place of an owner's k-th bit, below 2^19: the upper bits of a product
unfoldable pub slot : (owner k : ℕ) → ℕ
slot w k = (hash w * ((10723151780598845931 + k * 13787848793156543929 % 2 ^ 64) % 2 ^ 64)) % 2 ^ 64 / 2 ^ 45

-- may an owner have been added: all four bits are set
unfoldable pub may_have : List ℕ → (owner : ℕ) → Bool
may_have ws w = list_all (λ k. marked ws (slot w k)) (range_with_len 0 4)

-- an owner was added: it may be in the filter, and so may all that might before
pub record Adds (owner : ℕ) (before after : List ℕ) : Type 0 where
  pub has : may_have after owner ≡ true
  pub keeps : (w : ℕ) → may_have before w ≡ true → may_have after w ≡ true
