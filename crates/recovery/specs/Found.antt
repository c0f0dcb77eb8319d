-- What is found on a shelf after damage, whatever its cells are. Assumes nothing: these are definitions.
use Rattle.std.specs.Prelude.{◌≡◌, ℕ, zero, suc, ◌+◌, ◌<◌, Bool, true, false, cond, not, ◌&&◌, ◌||◌, List, length, ◌==◌, ◌≢◌, nat_lt}
use Rattle.block.specs.Block.{whose, size, used}

-- from the left, a block in use where one stands and whose owner hasn't been found, and one goes on behind it; else one cell on
unfoldable pub found_from : ℕ → List ℕ → (seen : ℕ → Bool) → ℕ → (ℕ → Bool)
found_from zero a s i p = false
found_from (suc f) a s i p =
    cond (nat_lt i (length a))
    (cond (used a i && not (s (whose a i))) (p == i || found_from f a (λ w. (w == whose a i) || s w) (i + size a i) p) (found_from f a s (i + 1) p)) false

-- is something found at a place
unfoldable pub found : List ℕ → (ℕ → Bool)
found a = found_from (length a) a (λ w. false) 0

-- a block in use stands at a place, and none of the same owner before it
pub record FirstOfOwner (a : List ℕ) (p : ℕ) : Type 0 where
  pub here : used a p ≡ true
  pub first : (j : ℕ) → j < p → used a j ≡ true → whose a j ≢ whose a p

-- nobody has two blocks in use
abbrev pub NobodyTwice : List ℕ → Type 0
NobodyTwice a = (i j : ℕ) → used a i ≡ true → used a j ≡ true → whose a i ≡ whose a j → i ≡ j
