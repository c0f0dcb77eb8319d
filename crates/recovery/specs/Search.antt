-- What a search along the shelf knows as it goes, and what it hands back. Assumes nothing: these are definitions.
use Rattle.std.specs.Prelude.{◌≡◌, ℕ, ◌+◌, ◌<◌, ◌≤◌, true, false, ◌&&◌, List, length, Option, MatchOption, nat_lt}
use Rattle.block.specs.Block.{whose, size, used}
use Rattle.bits.specs.Marks.{marked, count}
use Rattle.bits.specs.Filter.{may_have}
use Rattle.recovery.specs.Found.{found}

-- a place from i on and before j is marked, and the block there is this owner's
abbrev pub MarkedAs : (marks shelf : List ℕ) → (owner i j : ℕ) → Type 0
MarkedAs ms a w i j = (p : ℕ) × (i ≤ p) × (p < j) × (marked ms p ≡ true) × (whose a p ≡ w)

-- no block in use stands from i on and before j
abbrev pub NoneUsed : List ℕ → (i j : ℕ) → Type 0
NoneUsed a i j = (p : ℕ) → i ≤ p → p < j → used a p ≡ false

-- the first block in use from i on, and then the place j behind it; or none up to the end
pub record NextUsed (a : List ℕ) (i : ℕ) (next : Option ℕ) (after : List ℕ) (j : ℕ) : Type 0 where
  pub same : after ≡ a
  pub first : MatchOption next (NoneUsed a i (length a)) (λ p. (i ≤ p) × (used a p ≡ true) × NoneUsed a i p × (j ≡ p + size a p))

-- a search has come to i: marked is what is found before i, and whoever is marked may be in the filter
pub record SoFar (a marks filter : List ℕ) (i : ℕ) : Type 0 where
  pub places : (p : ℕ) → marked marks p ≡ (nat_lt p i && found a p)
  pub owners : (p : ℕ) → marked marks p ≡ true → may_have filter (whose a p) ≡ true

-- what is found is marked, and nothing else, and the marks are counted
pub record AllFound (a marks : List ℕ) (n : ℕ) : Type 0 where
  pub places : (p : ℕ) → marked marks p ≡ found a p
  pub counts : n ≡ count marks
