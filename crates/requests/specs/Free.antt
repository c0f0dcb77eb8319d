-- What is written where cells are free. Assumes nothing: these are definitions.
use Rattle.std.specs.Prelude.{ℕ, zero, suc, false, List, [], ◌∷◌, replicate}
use Rattle.shelf.specs.Pieces.{Piece, gap, blk, flat}

-- a row of noughts
abbrev pub noughts : ℕ → List ℕ
noughts n = replicate n 0

-- so many free cells: dead ones if they are too few for a head, else a block of noughts of nobody's that isn't in use
abbrev pub free_pieces : ℕ → List Piece
free_pieces zero = []
free_pieces (suc zero) = gap ∷ []
free_pieces (suc (suc zero)) = gap ∷ gap ∷ []
free_pieces (suc (suc (suc n))) = blk false 0 (noughts n) ∷ []

-- their cells
abbrev pub free_cells : ℕ → List ℕ
free_cells n = flat (free_pieces n)
