-- A block on a shelf of cells: a head of three cells and a row. Assumes nothing: these are definitions.
use Rattle.std.specs.Prelude.{ℕ, suc, ◌+◌, ◌*◌, ◌%◌, ◌<◌, ◌≤◌, Bool, true, ◌&&◌, List, [], ◌∷◌, length, take, drop, ◌==◌, nat_le, nat_lt, slice_index}
use Rattle.block.specs.Cell.{limit, is_first, first_cell, row_length, is_used}

-- the cell at a place, nought past the end
abbrev pub at : List ℕ → ℕ → ℕ
at a i = slice_index a i

-- does the first cell of a head stand at a place
abbrev pub is_head : List ℕ → ℕ → Bool
is_head a i = is_first (at a i)

-- a head's first cell tells how long the row is and whether the block is in use; its second, whose it is
abbrev pub long : List ℕ → ℕ → ℕ
long a i = row_length (at a i)

abbrev pub in_use : List ℕ → ℕ → Bool
in_use a i = is_used (at a i)

abbrev pub whose : List ℕ → ℕ → ℕ
whose a i = at a (i + 1)

-- how many cells a block with so long a row has: the head's three and the row
unfoldable pub size_for : ℕ → ℕ
size_for n = 3 + n

-- how many cells the block at a place has
abbrev pub size : List ℕ → ℕ → ℕ
size a i = size_for (long a i)

-- the row, which is what a block holds
unfoldable pub content : List ℕ → ℕ → List ℕ
content a i = take (long a i) (drop (i + 3) a)

-- the cells of a row, the first by a weight of k + 1, the next by k + 2, and so on
unfoldable pub weighed : ℕ → List ℕ → ℕ
weighed k [] = 0
weighed k (x ∷ xs) = suc k * x + weighed (suc k) xs

-- the checksum, a head's third cell: the first cell once, the owner three times, the row from five times on
unfoldable pub sum_of : (first owner : ℕ) → List ℕ → ℕ
sum_of c w xs = (c + (3 * w + weighed 4 xs)) % 2147483647

-- are all cells of a row below the limit
unfoldable pub all_small : List ℕ → Bool
all_small [] = true
all_small (x ∷ xs) = nat_lt x limit && all_small xs

-- a block stands at a place: a head's first cell is there, the row ends on the shelf, owner and row are small, and the checksum is right
unfoldable pub block : List ℕ → ℕ → Bool
block a i =
    is_head a i
    && (nat_le (i + size a i) (length a) && (nat_lt (whose a i) limit && (all_small (content a i) && at a (i + 2) == sum_of (at a i) (whose a i) (content a i))))

-- the cells of a block: in use or not, whose it is, its row
unfoldable pub block_cells : (used : Bool) → (owner : ℕ) → List ℕ → List ℕ
block_cells u w r = first_cell (length r) u ∷ w ∷ sum_of (first_cell (length r) u) w r ∷ r

-- a block in use stands at a place
unfoldable pub used : List ℕ → ℕ → Bool
used a i = block a i && in_use a i

-- a place is one of the cells of the block at i
abbrev pub in_block : List ℕ → ℕ → ℕ → Type 0
in_block a i k = (i ≤ k) × (k < i + size a i)
