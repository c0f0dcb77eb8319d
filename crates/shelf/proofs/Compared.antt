-- Cells compared with a number.
use Rattle.std.proofs.Common.{◌≡◌, ℕ, zero, suc, ◌<◌, true, List, [], ◌∷◌, length, get_or, arith}
use Rattle.std.proofs.lemmas.Bool.{or_left, or_right, eq-eqb}
use Rattle.shelf.specs.Compared.{has_cell}

-- a cell of that number is seen, wherever it stands
pub has_at : (v : ℕ) (xs : List ℕ) (k : ℕ) → k < length xs → get_or xs k 0 ≡ v → has_cell v xs ≡ true
unfolding has_cell
has_at v [] k l e = let z : ⊥ = omega arith in absurd z
has_at v (x ∷ xs) zero l e = or_left _ _ (eq-eqb x v e)
has_at v (x ∷ xs) (suc k) l e = or_right _ _ (has_at v xs k (omega arith) e)
