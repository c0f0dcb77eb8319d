-- Which head a first cell tells. Assumes nothing: these are definitions.
use Rattle.std.specs.Prelude.{◌≡◌, ℕ, true, false, Result, MatchResult}
use Rattle.block.specs.Cell.{is_first, first_cell, row_length, is_used}
use Rattle.block.specs.declared.head.Head.{Head}
use Rattle.block.specs.declared.convert.NoHead.{NoHead}

-- the cell is the first cell of the head
pub record Tells (h : Head) (cell : ℕ) : Type 0 where
  pub first : is_first cell ≡ true
  pub value : cell ≡ first_cell h.length h.in_use
  pub length : row_length cell ≡ h.length
  pub in_use : is_used cell ≡ h.in_use

-- the result is the head that the cell tells, or an error with a cell that tells none
abbrev pub Reads : ℕ → Result Head NoHead → Type 0
Reads cell r = MatchResult r (λ h. Tells h cell) (λ e. (e.0 ≡ cell) × (is_first cell ≡ false))
