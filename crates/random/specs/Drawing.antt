-- Numbers drawn one after the other from a seed. Assumes nothing: these are definitions.
use Rattle.std.specs.Prelude.{ℕ, ◌*◌, ◌/◌, ◌%◌, ◌^◌}
use Rattle.std.specs.Int.Bits.{bit_or, bit_xor}

-- the state that a seed makes: a product, made odd
abbrev pub start : (seed : ℕ) → ℕ
start s = bit_or (s * 11400714819323198485 % 2 ^ 64) 1

-- the state behind a state: it is folded into itself by 12 bits down, 25 up and 27 down
abbrev pub stirred : ℕ → ℕ
stirred x = let a = bit_xor x (x / 2 ^ 12) in let b = bit_xor a (a * 2 ^ 25 % 2 ^ 64) in bit_xor b (b / 2 ^ 27)

-- the number that a state gives: the upper 48 bits of a product
abbrev pub drawn : ℕ → ℕ
drawn x = x * 2685821657736338717 % 2 ^ 64 / 2 ^ 16
