-- 2147483647 is a prime: where it divides a product by a number below it, it divides the other factor. By trial division and Euclid's descent.
use Rattle.std.proofs.Common.{◌≡◌, ℕ, zero, suc, ◌+◌, ◌*◌, ◌/◌, ◌%◌, ◌^◌, ◌<◌, ◌≤◌, Bool, true, ◌&&◌, ltb, refl, ap, inl, inr, mul-le-mul_right, mod-lt, mul-le-mul_left, arith}
use native.Mathlib.Nat.{div-add-mod, mul-mod_left}
use Rattle.std.proofs.lemmas.Bool.{ltb-true, and_parts, cases_lt}
use Rattle.recovery.specs.Hits.{LimitIsPrime}

-- none of the 2 ^ k numbers from a on divides it: by halves, so that the recursion is no deeper than k
undivided : (k a : ℕ) → Bool
undivided zero a = ltb 0 (2147483647 % a)
undivided (suc k) a = undivided k a && undivided k (a + 2 ^ k)

undivided_at : (k from a : ℕ) → undivided k from ≡ true → from ≤ a → a < from + 2 ^ k → 0 < 2147483647 % a
unfolding undivided
undivided_at zero from a h l m = let e : from ≡ a = omega arith in rw (← e) (ltb-true 0 (2147483647 % from) h)
undivided_at (suc k) from a h l m =
    let p = and_parts (undivided k from) _ h in
    elim (cases_lt a (from + 2 ^ k)) [
      | inl e ↦ undivided_at k from a p.0 l e
      | inr e ↦ undivided_at k (from + 2 ^ k) a p.1 e (omega arith)
    ]

-- computed for the numbers from 2 to 65,537
no_small : undivided 16 2 ≡ true
unfolding undivided
no_small = refl

-- a divisor above these has a partner among them
no_partner : (a : ℕ) → 65538 ≤ a → a < 2147483647 → a * (2147483647 / a) ≡ 2147483647 → ⊥
no_partner a big m e =
    let q = 2147483647 / a in
    let l : 65538 * q ≤ a * q = mul-le-mul_right q big in
    let g : 2 ≤ q = elim (cases_lt q 2) [ inl n ↦ let k : a * q ≤ a * 1 = mul-le-mul_left a (omega arith) in omega arith | inr n ↦ n ] in
    let s = undivided_at 16 2 q no_small g (omega arith) in
    let z : 2147483647 % q ≡ 0 = rw e at (mul-mod_left a q) in
    omega arith

no_divisor : (a : ℕ) → 2 ≤ a → a < 2147483647 → 0 < 2147483647 % a
no_divisor a l m = elim (cases_lt a 65538) [
  | inl e ↦ undivided_at 16 2 a no_small l (omega arith)
  | inr e ↦ elim (cases_lt 0 (2147483647 % a)) [ inl r ↦ r | inr r ↦ absurd (no_partner a e m (omega (arith, div-add-mod 2147483647 a))) ]
]

-- with a also the remainder of the prime by a has such a product
remainder : (a d : ℕ) → (a * d) % 2147483647 ≡ 0 → (2147483647 % a * d) % 2147483647 ≡ 0
remainder a d h =
    let q = 2147483647 / a in
    let t = (a * d) / 2147483647 in
    let e : (a * q + 2147483647 % a) * d ≡ 2147483647 * d = ap (λ m. m * d) (div-add-mod 2147483647 a) in
    let f : a * d ≡ 2147483647 * t = omega arith in
    let g : q * (a * d) ≡ q * (2147483647 * t) = ap (λ m. q * m) f in
    omega arith

descent : (n a d : ℕ) → a ≤ n → 0 < a → a < 2147483647 → (a * d) % 2147483647 ≡ 0 → d % 2147483647 ≡ 0
descent zero a d b l m h = let z : ⊥ = omega arith in absurd z
descent (suc n) a d b l m h = elim (cases_lt a 2) [
  | inl e ↦ let o : a ≡ 1 = omega arith in let g = rw o at h in omega arith
  | inr e ↦
      let r : 2147483647 % a < a = mod-lt 2147483647 l in
      descent n (2147483647 % a) d (omega arith) (no_divisor a e m) (omega arith) (remainder a d h)
]

pub divides_other : (a d : ℕ) → 0 < a → a < 2147483647 → (a * d) % 2147483647 ≡ 0 → d % 2147483647 ≡ 0
divides_other a d l m h = descent a a d (omega arith) l m h

pub limit_is_prime : LimitIsPrime
limit_is_prime m n l b k c h = let z = divides_other m n l b h in omega arith
