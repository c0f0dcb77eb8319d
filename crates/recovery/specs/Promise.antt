-- What is promised of what is found. Each statement is the contract of a function.
use Rattle.std.specs.Prelude.{◌≡◌, ℕ, ◌+◌, ◌<◌, ◌≤◌, true, ◌⊎◌, List, length, ◌≢◌}
use Rattle.block.specs.Block.{at, whose, size, content, used, in_block}
use Rattle.shelf.specs.Walk.{find, holds}
use Rattle.shelf.specs.Sound.{all_cells, sound}
use Rattle.recovery.specs.Found.{found, FirstOfOwner, NobodyTwice}
use Rattle.requests.specs.Laws.{Canonical}
use Rattle.recovery.specs.Mend.{Mended}

-- a cell of the block that stands in b at j is not what it was in a
abbrev pub Damaged : (a b : List ℕ) → ℕ → Type 0
Damaged a b j = (k : ℕ) × in_block b j k × (at b k ≢ at a k)

-- no cell of the block that stands in a at i became another in b
abbrev pub Unharmed : (a b : List ℕ) → ℕ → Type 0
Unharmed a b i = (k : ℕ) → in_block a i k → at b k ≡ at a k

-- what is found is the first block in use of each owner, and nothing else
abbrev pub FoundIsFirst : Type 0
FoundIsFirst = (b : List ℕ) (p : ℕ) → (found b p ≡ true → FirstOfOwner b p) × (FirstOfOwner b p → found b p ≡ true)

-- no block that is found reaches into another
abbrev pub Apart : Type 0
Apart = (b : List ℕ) (i j : ℕ) → found b i ≡ true → found b j ≡ true → i < j → i + size b i ≤ j

-- whatever cells became of a shelf on which nobody has two blocks in use, every block in use of which none did is found, unless a damaged one is found before it under the same owner
abbrev pub SavesUsed : Type 0
SavesUsed =
    (a b : List ℕ) (i : ℕ) → NobodyTwice a → length b ≡ length a → used a i ≡ true → Unharmed a b i →
    (found b i ≡ true) ⊎ ((j : ℕ) × (j < i) × (found b j ≡ true) × (whose b j ≡ whose a i) × Damaged a b j)

-- and whatever the shelf was, what is found stood there in use, or has a damaged cell
abbrev pub UsedOrDamaged : Type 0
UsedOrDamaged =
    (a b : List ℕ) (j : ℕ) → length b ≡ length a → found b j ≡ true →
    ((used a j ≡ true) × (whose a j ≡ whose b j) × (content a j ≡ content b j)) ⊎ Damaged a b j

-- where nobody has two, all that is in use is found, and nothing else
abbrev pub UsedIsFound : Type 0
UsedIsFound = (a : List ℕ) → NobodyTwice a → (i : ℕ) → found a i ≡ used a i

-- a damaged block is found in b as somebody's, before their own in a
abbrev pub Forestalled : (a b : List ℕ) → (owner : ℕ) → Type 0
Forestalled a b w = (j : ℕ) × (j < find a w) × (found b j ≡ true) × (whose b j ≡ w) × Damaged a b j

-- whatever cells of a sound shelf became, everybody's block of which none did is found, unless a damaged one is found before it as theirs
abbrev pub SavesAll : Type 0
SavesAll =
    (a b : List ℕ) (w : ℕ) → sound a ≡ true → length b ≡ length a → find a w < length a → Unharmed a b (find a w) → (found b (find a w) ≡ true) ⊎ Forestalled a b w

-- and what is found and was not there has a damaged cell
abbrev pub AddsOnlyDamaged : Type 0
AddsOnlyDamaged =
    (a b : List ℕ) (j : ℕ) → sound a ≡ true → length b ≡ length a → found b j ≡ true → ((find a (whose b j) ≡ j) × (content a j ≡ content b j)) ⊎ Damaged a b j

-- on a sound shelf all that is in use is found, and nothing else
abbrev pub NothingNew : Type 0
NothingNew =
    (a : List ℕ) (i : ℕ) → sound a ≡ true → (found a i ≡ true → find a (whose a i) ≡ i) × (i < length a → find a (whose a i) ≡ i → found a i ≡ true)

-- from every shelf of up to 100,000 cells there is a sound one with what was found, each where it stood, and nothing more
abbrev pub CanBeMended : Type 0
CanBeMended = (b : List ℕ) → all_cells b ≡ true → 3 ≤ length b → length b ≤ 100000 → (c : List ℕ) × Mended b c

-- somebody's block stands in both at the same place, with the same row, or in neither
pub record Kept (a c : List ℕ) (owner : ℕ) : Type 0 where
  pub place : find c owner ≡ find a owner
  pub row : holds c owner ≡ holds a owner

-- what mending does for everybody, whatever sound shelf a the cells were that it was lent, before any of them was hit
pub record KeptByMending (before after : List ℕ) : Type 0 where
  -- whoever's block has no cell that was hit holds it as in a, unless a damaged block was found before it as theirs
  pub saves : (a : List ℕ) (w : ℕ) → sound a ≡ true → length before ≡ length a → find a w < length a → Unharmed a before (find a w) → Kept a after w ⊎ Forestalled a before w
  -- whoever holds something holds just what they held in a, or it has a cell that was hit
  pub adds : (a : List ℕ) (w : ℕ) → sound a ≡ true → length before ≡ length a → find after w < length after → Kept a after w ⊎ Damaged a before (find after w)
  -- where nothing was hit everybody holds what they held
  pub stays : sound before ≡ true → (w : ℕ) → Kept before after w
  -- and if its free blocks are as they are written, no cell changes
  pub unchanged : Canonical before → after ≡ before
  -- afterwards they always are
  pub settled : Canonical after
