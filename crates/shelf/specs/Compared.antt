-- Cells compared with a number. Assumes nothing: these are definitions.
use Rattle.std.specs.Prelude.{ℕ, Bool, false, ◌||◌, List, [], ◌∷◌, ◌==◌}

-- is some cell of a row this number
unfoldable pub has_cell : ℕ → List ℕ → Bool
has_cell v [] = false
has_cell v (x ∷ xs) = x == v || has_cell v xs
