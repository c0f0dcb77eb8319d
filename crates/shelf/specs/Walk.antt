-- Going along a shelf from block to block, and what is looked for on the way. Assumes nothing: these are definitions.
use Rattle.std.specs.Prelude.{ℕ, zero, suc, ◌+◌, Bool, false, cond, not, ◌&&◌, ◌||◌, List, length, Some, None, Option, ◌==◌, nat_le, nat_lt}
use Rattle.block.specs.Cell.{dead}
use Rattle.block.specs.Block.{at, long, in_use, whose, size, content}

-- a dead cell stands at a place
abbrev pub is_dead : List ℕ → ℕ → Bool
is_dead a i = at a i == dead

-- the place behind what stands at a place: a dead cell or a block
unfoldable pub next : List ℕ → ℕ → ℕ
next a i = cond (is_dead a i) (i + 1) (i + size a i)

-- the first place from i on, gone along, that passes a test, or the shelf's end
unfoldable pub first_from : (test : ℕ → Bool) → (fuel : ℕ) → List ℕ → ℕ → ℕ
first_from t zero a i = length a
first_from t (suc f) a i = cond (nat_lt i (length a)) (cond (t i) i (first_from t f a (next a i))) (length a)

-- a block in use of somebody's stands at a place of the walk
abbrev pub theirs : List ℕ → ℕ → ℕ → Bool
theirs a w i = not (is_dead a i) && (in_use a i && whose a i == w)

-- the block of somebody: its place, or the shelf's end
unfoldable pub find : List ℕ → ℕ → ℕ
find a w = first_from (theirs a w) (length a) a 0

-- a free block with a row of n cells or more stands at a place of the walk
abbrev pub roomy : List ℕ → ℕ → ℕ → Bool
roomy a n i = not (is_dead a i) && (not (in_use a i) && nat_le n (long a i))

-- the first free block that is long enough: its place, or the shelf's end
unfoldable pub room : List ℕ → ℕ → ℕ
room a n = first_from (roomy a n) (length a) a 0

-- is there a free block that is long enough
unfoldable pub has_room : ℕ → List ℕ → ℕ → ℕ → Bool
has_room zero a n i = false
has_room (suc f) a n i = nat_lt i (length a) && (roomy a n i || has_room f a n (next a i))

-- a place on the shelf, or none where it is the shelf's end
abbrev pub on_shelf : List ℕ → ℕ → Option ℕ
on_shelf a i = cond (nat_lt i (length a)) (Some i) None

-- what somebody holds: the row of the block in use that is theirs
pub data Held : Type 0 where
  none : Held
  held : List ℕ → Held

unfoldable pub holds : List ℕ → ℕ → Held
holds a w = cond (nat_lt (find a w) (length a)) (held (content a (find a w))) none
