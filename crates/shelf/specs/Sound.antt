-- Sound shelves, and the place at which one that isn't is at fault. Assumes nothing: these are definitions.
use Rattle.std.specs.Prelude.{ℕ, zero, suc, ◌+◌, Bool, true, cond, not, ◌&&◌, ◌||◌, List, [], ◌∷◌, length, Some, None, Option, ◌==◌, nat_le, nat_lt}
use Rattle.block.specs.Cell.{dead}
use Rattle.block.specs.Block.{in_use, whose, block}
use Rattle.shelf.specs.Walk.{is_dead, next, first_from, theirs, find}

-- a dead cell or a block stands at a place
abbrev pub good_at : List ℕ → ℕ → Bool
good_at a i = is_dead a i || block a i

-- something free stands at a place: a dead cell or a block that isn't in use
abbrev pub idle : List ℕ → ℕ → Bool
idle a i = nat_lt i (length a) && (is_dead a i || not (in_use a i))

-- no block that isn't in use and no dead cell stands before such a block or a dead cell, but that two dead cells may stand together
abbrev pub tidy_at : List ℕ → ℕ → Bool
tidy_at a i = cond (is_dead a i) (not (idle a (i + 1)) || (is_dead a (i + 1) && not (idle a (i + 2)))) (in_use a i || not (idle a (next a i)))

-- whose block in use it is has no other behind it
abbrev pub once_at : List ℕ → ℕ → Bool
once_at a i = is_dead a i || (not (in_use a i) || first_from (theirs a (whose a i)) (length a) a (next a i) == length a)

-- gone along from a place, blocks and dead cells stand one behind the other up to the shelf's end
unfoldable pub good_from : ℕ → List ℕ → ℕ → Bool
good_from zero a i = i == length a
good_from (suc f) a i = i == length a || (nat_lt i (length a) && (good_at a i && good_from f a (next a i)))

-- gone along from a place, a test holds wherever one comes
unfoldable pub all_from : (test : ℕ → Bool) → ℕ → List ℕ → ℕ → Bool
all_from t zero a i = true
all_from t (suc f) a i = not (nat_lt i (length a)) || (t i && all_from t f a (next a i))

-- every number is one that a cell can hold
unfoldable pub all_cells : List ℕ → Bool
all_cells [] = true
all_cells (x ∷ xs) = nat_le x dead && all_cells xs

-- a sound shelf
unfoldable pub sound : List ℕ → Bool
sound a =
    all_cells a && (good_from (length a) a 0 && (all_from (tidy_at a) (length a) a 0 && all_from (once_at a) (length a) a 0))

-- a block in use stands at a place of the walk whose owner was met before
abbrev pub met_before : List ℕ → ℕ → Bool
met_before a i = not (is_dead a i) && (in_use a i && nat_lt (find a (whose a i)) i)

-- nothing is at fault at a place of the walk
abbrev pub sound_at : List ℕ → ℕ → Bool
sound_at a i = good_at a i && (tidy_at a i && not (met_before a i))

-- the first place, gone along, at which something is at fault
unfoldable pub unsound_from : ℕ → List ℕ → ℕ → Option ℕ
unsound_from zero a i = None
unsound_from (suc f) a i = cond (nat_lt i (length a)) (cond (sound_at a i) (unsound_from f a (next a i)) (Some i)) None

unfoldable pub first_unsound : List ℕ → Option ℕ
first_unsound a = unsound_from (length a) a 0
