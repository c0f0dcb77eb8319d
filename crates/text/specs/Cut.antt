-- How a line is cut into words.
use Rattle.std.specs.Prelude.{◌≡◌, ℕ, ◌-◌, ◌<◌, Bool, cond, ◌&&◌, ◌||◌, List, [], ◌∷◌, length, take, ◌==◌, nat_lt, slice_index}
use Rattle.std.specs.Bool.{beq}
use Rattle.std.specs.List.{slice_split}

-- what keeps words apart: a blank or a tab
abbrev pub is_blank : ℕ → Bool
is_blank b = b == 32 || b == 9

-- is a byte a blank, or, asked with false, none
abbrev pub of_kind : Bool → ℕ → Bool
of_kind blank b = beq (is_blank b) blank

-- the pieces of a line between its blanks, empty ones too
abbrev pub pieces : List ℕ → List (List ℕ)
pieces bs = slice_split is_blank bs

-- the pieces that are not empty
unfoldable pub filled : List (List ℕ) → List (List ℕ)
filled [] = []
filled ([] ∷ ws) = filled ws
filled ((b ∷ w) ∷ ws) = (b ∷ w) ∷ filled ws

-- the words of a line
unfoldable pub words : List ℕ → List (List ℕ)
words bs = filled (pieces bs)

-- a line, its first word, and what stands behind that
pub record First (line word behind : List ℕ) : Type 0 where
  pub first : words line ≡ word ∷ words behind
  pub shorter : length behind < length line

-- a list without its last element, where that is x
abbrev pub without_last : ℕ → List ℕ → List ℕ
without_last x bs = cond (nat_lt 0 (length bs) && slice_index bs (length bs - 1) == x) (take (length bs - 1) bs) bs

-- a line without its end: a line feed, and a carriage return before it
abbrev pub without_end : List ℕ → List ℕ
without_end line = without_last 13 (without_last 10 line)
