-- A shelf as a list of pieces, dead cells and blocks, one behind the other. Assumes nothing: these are definitions.
use Rattle.std.specs.Prelude.{◌≡◌, ℕ, ◌+◌, Bool, true, false, cond, not, ◌&&◌, ◌||◌, List, [], ◌∷◌, ◌++◌, map, length, ◌==◌}
use Rattle.block.specs.Cell.{dead}
use Rattle.block.specs.Block.{size_for, block_cells}
use Rattle.block.specs.Laws.{Writable}
use Rattle.shelf.specs.Walk.{Held, none, held}

-- a dead cell, or a block: in use or not, whose, its row
pub data Piece : Type 0 where
  gap : Piece
  blk : (used : Bool) (owner : ℕ) (row : List ℕ) → Piece

-- the cells of a piece, and of all of them
abbrev pub cells : Piece → List ℕ
cells gap = dead ∷ []
cells (blk u w r) = block_cells u w r

abbrev pub flat : List Piece → List ℕ
flat [] = []
flat (x ∷ xs) = cells x ++ flat xs

-- how many cells a piece has, and all of them
abbrev pub extent : Piece → ℕ
extent gap = 1
extent (blk u w r) = size_for (length r)

abbrev pub total : List Piece → ℕ
total [] = 0
total (x ∷ xs) = extent x + total xs

-- owner and row of every block are small, and its length can be told
abbrev pub Fine : Piece → Type 0
Fine gap = Unit {0}
Fine (blk u w r) = Writable u w r

abbrev pub AllFine : List Piece → Type 0
AllFine [] = Unit {0}
AllFine (x ∷ xs) = Fine x × AllFine xs

-- a piece in use of somebody's
abbrev pub used_by : ℕ → Piece → Bool
used_by w gap = false
used_by w (blk u v r) = u && v == w

-- what somebody holds
abbrev pub row_of : Piece → List ℕ
row_of gap = []
row_of (blk u v r) = r

abbrev pub held_of : ℕ → List Piece → Held
held_of w [] = none
held_of w (x ∷ xs) = cond (used_by w x) (held (row_of x)) (held_of w xs)

-- tidiness depends on the kinds of the pieces alone
pub data Kind : Type 0 where
  Gap : Kind
  Free : Kind
  Used : Kind

abbrev pub kind : Piece → Kind
kind gap = Gap
kind (blk true w r) = Used
kind (blk false w r) = Free

abbrev pub idle_first : List Kind → Bool
idle_first [] = false
idle_first (Gap ∷ ks) = true
idle_first (Free ∷ ks) = true
idle_first (Used ∷ ks) = false

-- behind a dead cell: nothing idle, or one more dead cell and nothing idle
abbrev pub gap_ok : List Kind → Bool
gap_ok [] = true
gap_ok (Gap ∷ ks) = not (idle_first ks)
gap_ok (Free ∷ ks) = false
gap_ok (Used ∷ ks) = true

abbrev pub tidy : List Kind → Bool
tidy [] = true
tidy (Gap ∷ ks) = gap_ok ks && tidy ks
tidy (Free ∷ ks) = not (idle_first ks) && tidy ks
tidy (Used ∷ ks) = tidy ks

-- whose the blocks in use are, and whether nobody is named twice
abbrev pub owners : List Piece → List ℕ
owners [] = []
owners (gap ∷ xs) = owners xs
owners (blk true w r ∷ xs) = w ∷ owners xs
owners (blk false w r ∷ xs) = owners xs

abbrev pub elem : ℕ → List ℕ → Bool
elem w [] = false
elem w (v ∷ vs) = v == w || elem w vs

abbrev pub nodup : List ℕ → Bool
nodup [] = true
nodup (v ∷ vs) = not (elem v vs) && nodup vs

-- pieces of a sound shelf
pub record SoundPieces (its : List Piece) : Type 0 where
  pub fine : AllFine its
  pub tidied : tidy (map kind its) ≡ true
  pub apart : nodup (owners its) ≡ true
