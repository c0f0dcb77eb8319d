-- What the filter of owners knows of a walk that has come to a place. Assumes nothing: these are definitions.
use Rattle.std.specs.Prelude.{◌≡◌, ℕ, ◌<◌, true, List}
use Rattle.bits.specs.Filter.{may_have}
use Rattle.shelf.specs.Walk.{theirs, find}

-- whoever's block stands before a place of the walk may be in the filter
abbrev pub Knows : List ℕ → ℕ → (filter : List ℕ) → Type 0
Knows a i ws = (w : ℕ) → find a w < i → may_have ws w ≡ true

-- the owner of a block in use at a place is added, and nobody is lost
pub record Notes (a : List ℕ) (i : ℕ) (before after : List ℕ) : Type 0 where
  pub has : (w : ℕ) → theirs a w i ≡ true → may_have after w ≡ true
  pub keeps : (w : ℕ) → may_have before w ≡ true → may_have after w ≡ true
