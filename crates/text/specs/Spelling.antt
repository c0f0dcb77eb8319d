-- The number that a word spells.
use Rattle.std.specs.Prelude.{ℕ, ◌+◌, ◌-◌, ◌*◌, ◌^◌, Bool, true, cond, ◌&&◌, List, [], ◌∷◌, length, Some, None, Option, nat_le, nat_lt}

-- a decimal digit
abbrev pub is_digit : ℕ → Bool
is_digit c = nat_le 48 c && nat_le c 57

-- the value that one more digit makes of n, where it is a digit and the value fits 64 bits
abbrev pub with_digit : ℕ → ℕ → Option ℕ
with_digit n c = cond (is_digit c && nat_lt (n * 10 + (c - 48)) (2 ^ 64)) (Some (n * 10 + (c - 48))) None

-- digits and nothing else
unfoldable pub all_digits : List ℕ → Bool
all_digits [] = true
all_digits (c ∷ cs) = is_digit c && all_digits cs

-- the number that digits write behind those of n
unfoldable pub value_after : ℕ → List ℕ → ℕ
value_after n [] = n
value_after n (c ∷ cs) = value_after (n * 10 + (c - 48)) cs

-- what a word spells: digits, at least one, of a number below 2^64
abbrev pub spelled : List ℕ → Option ℕ
spelled w = cond (nat_lt 0 (length w) && (all_digits w && nat_lt (value_after 0 w) (2 ^ 64))) (Some (value_after 0 w)) None
