-- What a walk hands out: what stands at a place, as a value. Assumes nothing: these are definitions.
use Rattle.std.specs.Prelude.{◌≡◌, ℕ, zero, suc, ◌+◌, min, Bool, true, false, cond, List, [], ◌∷◌, length, Some, None, Option, ◌==◌, nat_le, nat_lt}
use Rattle.block.specs.Block.{long, in_use, whose, size_for}
use Rattle.shelf.specs.Walk.{is_dead, next}
use Rattle.shelf.specs.declared.walk.Walk.{Walk}
use Rattle.shelf.specs.declared.walk.Item.{Item}
use Rattle.shelf.specs.declared.walk.Item.TheVariants.{Dead, Free, InUse}

-- a dead cell, or a block with its place and the length of its row, and its owner if it is in use
abbrev pub item_at : List ℕ → ℕ → Item
item_at a i = cond (is_dead a i) (Dead i) (cond (in_use a i) (InUse i (whose a i) (long a i)) (Free i (long a i)))

-- what a walk that is at a place says, and where it is then
abbrev pub said : List ℕ → ℕ → Option Item
said a i = cond (nat_lt i (length a)) (Some (item_at a i)) None

abbrev pub gone : List ℕ → ℕ → ℕ
gone a i = cond (nat_lt i (length a)) (next a i) i

-- a step of a walk: what it says, where it is then, and that it stays on its shelf
pub record Steps (before : Walk) (given : Option Item) (after : Walk) : Type 0 where
  pub item : given ≡ said before.shelf.now before.at
  pub at : after.at ≡ gone before.shelf.now before.at
  pub shelf : after.shelf.now ≡ before.shelf.now

-- what stands along a shelf from a place on, in order; there is no more of it than cells
unfoldable pub items_from : (fuel : ℕ) → List ℕ → ℕ → List Item
items_from zero a i = []
items_from (suc f) a i = cond (nat_lt i (length a)) (item_at a i ∷ items_from f a (next a i)) []

unfoldable pub items_along : List ℕ → ℕ → List Item
items_along a i = items_from (length a) a i

-- a block in use of somebody's
abbrev pub is_of : ℕ → Item → Bool
is_of w (Dead i) = false
is_of w (Free i n) = false
is_of w (InUse i v n) = v == w

-- a free block with a row of n cells or more
abbrev pub has_room_for : ℕ → Item → Bool
has_room_for n (Dead i) = false
has_room_for n (Free i m) = nat_le n m
has_room_for n (InUse i v m) = false

-- where it stands
abbrev pub place_of : Item → ℕ
place_of (Dead i) = i
place_of (Free i n) = i
place_of (InUse i v n) = i

-- how many cells it has
abbrev pub size_of : Item → ℕ
size_of (Dead i) = 1
size_of (Free i n) = size_for n
size_of (InUse i v n) = size_for n

-- the place behind it, or the greatest number of 64 bits
abbrev pub end_of : Item → ℕ
end_of x = min (place_of x + size_of x) 18446744073709551615

-- a dead cell or a block that isn't in use
abbrev pub is_idle : Item → Bool
is_idle (Dead i) = true
is_idle (Free i n) = true
is_idle (InUse i v n) = false
