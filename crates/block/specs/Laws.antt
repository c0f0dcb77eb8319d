-- The laws of a block, on which everything above rests. Each statement is the contract of a function.
use Rattle.std.specs.Prelude.{◌≡◌, ℕ, ◌+◌, ◌<◌, ◌≤◌, Bool, true, List, ◌++◌, length, drop}
use Rattle.block.specs.Cell.{mark, dead, limit, first_cell}
use Rattle.block.specs.Block.{at, long, in_use, whose, size, content, sum_of, all_small, block, block_cells, used, in_block}

-- what the test for a block asks, part by part
pub record Parts (a : List ℕ) (i : ℕ) : Type 0 where
  pub head : mark ≤ at a i
  pub live : at a i < dead
  pub fits : i + size a i ≤ length a
  pub owner : whose a i < limit
  pub small : all_small (content a i) ≡ true
  pub sum : at a (i + 2) ≡ sum_of (at a i) (whose a i) (content a i)

-- a block stands just where the parts of the test hold
abbrev pub ToldByParts : Type 0
ToldByParts = (a : List ℕ) (i : ℕ) → (block a i ≡ true → Parts a i) × (Parts a i → block a i ≡ true)

-- what owner and row a block can have
pub record Writable (u : Bool) (w : ℕ) (r : List ℕ) : Type 0 where
  pub owner : w < limit
  pub small : all_small r ≡ true
  pub live : first_cell (length r) u < dead

-- the block of which these are the cells stands at a place
pub record Stands (a : List ℕ) (i : ℕ) (u : Bool) (w : ℕ) (r : List ℕ) : Type 0 where
  pub stands : block a i ≡ true
  pub in_use_is : in_use a i ≡ u
  pub whose_is : whose a i ≡ w
  pub long_is : long a i ≡ length r
  pub content_is : content a i ≡ r

-- a block that is written stands, with what was written; and one that stands is as it would be written
pub record WrittenAndRead : Type 0 where
  pub written : (a : List ℕ) (i : ℕ) (u : Bool) (w : ℕ) (r behind : List ℕ) → Writable u w r → i ≤ length a → drop i a ≡ block_cells u w r ++ behind → Stands a i u w r
  pub read : (a : List ℕ) (i : ℕ) → block a i ≡ true → Writable (in_use a i) (whose a i) (content a i) × (drop i a ≡ block_cells (in_use a i) (whose a i) (content a i) ++ drop (i + size a i) a)

-- the first cell of a block is a head's, and no other cell of it is one or a dead cell
pub record OneHead (a : List ℕ) (i : ℕ) : Type 0 where
  pub first : mark ≤ at a i
  pub live : at a i < dead
  pub others : (k : ℕ) → i < k → k < i + size a i → at a k < limit

abbrev pub HasOneHead : Type 0
HasOneHead = (a : List ℕ) (i : ℕ) → block a i ≡ true → OneHead a i

-- two blocks that stand never overlap, whatever the cells are
abbrev pub NeverOverlap : Type 0
NeverOverlap = (a : List ℕ) (i j : ℕ) → block a i ≡ true → block a j ≡ true → i < j → i + size a i ≤ j

-- the same block at a place of two shelves
pub record Alike (a b : List ℕ) (i : ℕ) : Type 0 where
  pub stands : block b i ≡ block a i
  pub in_use_is : used b i ≡ used a i
  pub long_is : long b i ≡ long a i
  pub size_is : size b i ≡ size a i
  pub whose_is : whose b i ≡ whose a i
  pub content_is : content b i ≡ content a i

-- a block is told by its own cells alone: shelves that agree on them have the same block there
abbrev pub ToldByOwnCells : Type 0
ToldByOwnCells =
    (a b : List ℕ) (i : ℕ) → i + size a i ≤ length a → i + size a i ≤ length b → ((k : ℕ) → in_block a i k → at b k ≡ at a k) → Alike a b i
