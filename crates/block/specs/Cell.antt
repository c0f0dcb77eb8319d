-- What one cell can be: the first cell of a head, a dead cell, or a number below the limit. Assumes nothing: these are definitions.
use Rattle.std.specs.Prelude.{ℕ, ◌+◌, ◌-◌, ◌*◌, ◌/◌, ◌%◌, Bool, cond, ◌&&◌, ◌==◌, nat_le, nat_lt}

-- the least first cell of a head, 2^31
abbrev pub mark : ℕ
mark = 2147483648

-- a dead cell, 2^32 - 1
abbrev pub dead : ℕ
dead = 4294967295

-- owners, checksums and the cells of a row are below 2^31 - 1; checksums are taken modulo it
abbrev pub limit : ℕ
limit = 2147483647

-- the most cells that a shelf may have
abbrev pub most : ℕ
most = 100000

-- is this the first cell of a head
abbrev pub is_first : ℕ → Bool
is_first c = nat_le mark c && nat_lt c dead

-- the first cell of a head: 2^31, twice the length of the row, and 1 if the block is in use
unfoldable pub first_cell : (length : ℕ) → (used : Bool) → ℕ
first_cell n u = mark + (2 * n + cond u 1 0)

-- the length of the row that a first cell tells
unfoldable pub row_length : ℕ → ℕ
row_length c = (c - mark) / 2

-- whether a first cell tells of a block in use
unfoldable pub is_used : ℕ → Bool
is_used c = c % 2 == 1
