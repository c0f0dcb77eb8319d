-- Marks by place, as bits of words of 64. Assumes nothing: these are definitions.
use Rattle.std.specs.Prelude.{◌≡◌, ℕ, ◌+◌, ◌/◌, ◌%◌, Bool, cond, ◌||◌, List, ◌==◌, count_ones, sum_by, slice_index}
use Rattle.std.specs.Int.{bit_at}

-- is bit k of a word set
abbrev pub bit : ℕ → ℕ → Bool
bit w k = bit_at w k == 1

-- is a place marked: 64 places to a word, none past the last word
unfoldable pub marked : List ℕ → ℕ → Bool
marked ws p = bit (slice_index ws (p / 64)) (p % 64)

-- how many places are marked
unfoldable pub count : List ℕ → ℕ
count ws = sum_by count_ones ws

-- a place is marked: it is afterwards, all others are as they were, and there is one more if it wasn't
pub record MarksPlace (place : ℕ) (before after : List ℕ) : Type 0 where
  pub marks : (q : ℕ) → marked after q ≡ (q == place || marked before q)
  pub counts : count after ≡ count before + cond (marked before place) 0 1
