-- A block that is written stands, with what was written, and one that stands is as it would be written.
use Rattle.std.proofs.Common.{◌≡◌, ℕ, ◌+◌, ◌≤◌, Bool, true, List, ◌∷◌, ◌++◌, length, get_or, drop, sym, refl, ap, ◌∙◌, add-zero, arith, length-append}
use Rattle.std.proofs.lemmas.List.{drop_more, drop-drop, take_at, take-append-drop, length-drop, get_or-drop}
use Rattle.block.specs.Cell.{first_cell}
use Rattle.block.specs.Block.{at, long, in_use, whose, size_for, size, content, sum_of, block, block_cells}
use Rattle.block.specs.Laws.{Parts, Writable, Stands, WrittenAndRead}
use Rattle.block.proofs.Cells.{first_cell_length, first_cell_used, first_cell_back, first_cell_least}
use Rattle.block.proofs.Blocks.{parts, parts_back, size_is, content_length}

pub block_cells_length : (u : Bool) (w : ℕ) (r : List ℕ) → length (block_cells u w r) ≡ size_for (length r)
unfolding block_cells
block_cells_length u w r = let s = size_is (length r) in omega arith

-- the cell k behind a place, where what stands from there on is known
pub cell_is : (a : List ℕ) (i k : ℕ) (cells : List ℕ) → drop i a ≡ cells → at a (i + k) ≡ get_or cells k 0
cell_is a i k cells h = sym (get_or-drop i a k 0) ∙ ap (λ l. get_or l k 0) h

pub first_is : (a : List ℕ) (i : ℕ) (cells : List ℕ) → drop i a ≡ cells → at a i ≡ get_or cells 0 0
first_is a i cells h = ap (at a) (sym (add-zero i)) ∙ cell_is a i 0 cells h

pub written : (a : List ℕ) (i : ℕ) (u : Bool) (w : ℕ) (r behind : List ℕ) → Writable u w r → i ≤ length a → drop i a ≡ block_cells u w r ++ behind → Stands a i u w r
unfolding block_cells content
written a i u w r behind f within h =
    let first : at a i ≡ first_cell (length r) u = first_is a i _ h in
    let owner : whose a i ≡ w = cell_is a i 1 _ h in
    let sum : at a (i + 2) ≡ sum_of (first_cell (length r) u) w r = cell_is a i 2 _ h in
    let long_is : long a i ≡ length r = rw first (first_cell_length (length r) u) in
    let back : drop (i + 3) a ≡ r ++ behind = sym (drop-drop 3 i a) ∙ ap (drop 3) h in
    let row : content a i ≡ r = rw (long_is, back) (take_at r behind (length r) refl) in
    let n = ap length h in
    let d = length-drop i a in
    let e = length-append r behind in
    let s = size_is (long a i) in
    let p : Parts a i = record {
      head = rw first (first_cell_least (length r) u);
      live = rw first f.live;
      fits = omega arith;
      owner = rw owner f.owner;
      small = rw row f.small;
      sum = rw (row, first, owner) sum;
    } in
    record {
      stands = parts_back a i p;
      in_use_is = rw first (first_cell_used (length r) u);
      whose_is = owner;
      long_is = long_is;
      content_is = row;
    }

row_and_behind : (a : List ℕ) (i : ℕ) → drop (i + 3) a ≡ content a i ++ drop (i + size a i) a
unfolding content
row_and_behind a i =
    let s = size_is (long a i) in
    let e : i + 3 + long a i ≡ i + size a i = omega arith in
    sym (take-append-drop (long a i) (drop (i + 3) a)) ∙ ap (λ l. content a i ++ l) (drop-drop (long a i) (i + 3) a ∙ ap (λ n. drop n a) e)

pub read : (a : List ℕ) (i : ℕ) → block a i ≡ true → Writable (in_use a i) (whose a i) (content a i) × (drop i a ≡ block_cells (in_use a i) (whose a i) (content a i) ++ drop (i + size a i) a)
unfolding block_cells
read a i b =
    let p = parts a i b in
    let f = p.fits in
    let s = size_is (long a i) in
    let n = content_length a i f in
    let first : first_cell (length (content a i)) (in_use a i) ≡ at a i = ap (λ k. first_cell k (in_use a i)) n ∙ first_cell_back (at a i) p.head in
    let e1 : i + 1 + 1 ≡ i + 2 = omega arith in
    let e2 : i + 2 + 1 ≡ i + 3 = omega arith in
    let d0 = drop_more a i 0 (omega arith) in
    let d1 = drop_more a (i + 1) 0 (omega arith) in
    let d2 = drop_more a (i + 2) 0 (omega arith) in (
      record { owner = p.owner; small = p.small; live = rw first p.live },
      rw first (d0 ∙ ap (λ l. at a i ∷ l) (d1 ∙ ap (λ l. whose a i ∷ l) (ap (λ k. drop k a) e1 ∙ d2 ∙ (λ j. p.sum j ∷ (ap (λ k. drop k a) e2 ∙ row_and_behind a i) j)))),
    )

pub written_and_read : WrittenAndRead
written_and_read = record { written = written; read = read }
