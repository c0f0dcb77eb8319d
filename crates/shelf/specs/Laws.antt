-- The laws of sound shelves. Each statement is the contract of a function.
use Rattle.std.specs.Prelude.{◌≡◌, ℕ, ◌+◌, ◌<◌, ◌≤◌, true, false, not, List, length, is_some}
use Rattle.block.specs.Cell.{dead}
use Rattle.block.specs.Block.{at, whose, size, is_head, block, used}
use Rattle.shelf.specs.Walk.{next, find}
use Rattle.shelf.specs.Sound.{all_cells, sound, first_unsound}
use Rattle.shelf.specs.Pieces.{Piece, flat, SoundPieces}

-- a shelf is sound just where it is a row of sound pieces
pub record ByPieces : Type 0 where
  pub to : (a : List ℕ) → sound a ≡ true → (its : List Piece) × (a ≡ flat its) × SoundPieces its
  pub from : (its : List Piece) → SoundPieces its → sound (flat its) ≡ true

-- the places to which one comes, gone along from the first cell
pub data Place (a : List ℕ) : ℕ → Type 0 where
  start : Place a 0
  onward : {i : ℕ} → Place a i → i < length a → Place a (next a i)

-- on a sound shelf every cell that looks like the first of a head is a place of the walk, and a block stands there
abbrev pub HeadsArePlaces : Type 0
HeadsArePlaces = (a : List ℕ) (i : ℕ) → sound a ≡ true → is_head a i ≡ true → Place a i × (block a i ≡ true)

-- on a sound shelf somebody's block is the one block in use that is theirs
pub record FoundByOwner (a : List ℕ) : Type 0 where
  pub stands : (w : ℕ) → find a w < length a → (used a (find a w) ≡ true) × (whose a (find a w) ≡ w)
  pub own : (i : ℕ) → used a i ≡ true → find a (whose a i) ≡ i

abbrev pub NobodyHasTwo : Type 0
NobodyHasTwo = (a : List ℕ) → sound a ≡ true → FoundByOwner a

-- two blocks of a sound shelf never share a cell
abbrev pub NoSharing : Type 0
NoSharing = (a : List ℕ) (v w : ℕ) → sound a ≡ true → find a v < find a w → find a w < length a → find a v + size a (find a v) ≤ find a w

-- three dead cells together are not sound, wherever they stand
abbrev pub ThreeDeadUnsound : Type 0
ThreeDeadUnsound = (a : List ℕ) (i : ℕ) → i + 3 ≤ length a → at a i ≡ dead → at a (i + 1) ≡ dead → at a (i + 2) ≡ dead → sound a ≡ false

-- a place is at fault just where the shelf isn't sound
abbrev pub FaultIsUnsound : Type 0
FaultIsUnsound = (a : List ℕ) → all_cells a ≡ true → is_some (first_unsound a) ≡ not (sound a)
