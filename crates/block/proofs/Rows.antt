-- Small cells and weighed sums of a row that is cut in two, and a weight taken modulo the limit.
use Rattle.std.proofs.Common.{◌≡◌, ℕ, zero, suc, ◌+◌, ◌*◌, ◌/◌, ◌%◌, ◌<◌, ◌≤◌, Bool, true, false, ◌&&◌, ltb, List, [], ◌∷◌, ◌++◌, length, get_or, drop, sum, sym, refl, ap, ◌∙◌, mul_assoc, suc-mul, add-mul, mul-le-mul, mul-add, add-one, max, fold, min, arith}
use native.Mathlib.Nat.{div-add-mod}
use Rattle.std.proofs.lemmas.List.{at_drop_more, at_drop_all, length-append}
use Rattle.std.proofs.lemmas.Bool.Decides.{nat_tests}
use Rattle.std.proofs.lemmas.Bool.{ltb-true, and_parts}
use Rattle.std.proofs.lemmas.List.Sums.{sum_by-cons}
use Rattle.block.specs.Cell.{limit}
use Rattle.block.specs.Block.{weighed, sum_of, all_small}

and_assoc : (a b c : Bool) → (a && (b && c)) ≡ ((a && b) && c)
and_assoc true b c = refl
and_assoc false b c = refl

pub small_append : (xs ys : List ℕ) → all_small (xs ++ ys) ≡ (all_small xs && all_small ys)
unfolding all_small
small_append [] ys = refl
small_append (x ∷ xs) ys = ap (λ b. ltb x limit && b) (small_append xs ys) ∙ and_assoc (ltb x limit) (all_small xs) (all_small ys)

-- the test by the largest cell
pub largest_small : (a : ℕ) (xs : List ℕ) → ltb (fold (λ m x. max m x) a xs) limit ≡ (ltb a limit && all_small xs)
unfolding all_small
largest_small a [] = grind (arith, nat_tests)
largest_small a (x ∷ xs) = let r = largest_small (max a x) xs in grind (arith, nat_tests)

pub small_at : (xs : List ℕ) (k : ℕ) → all_small xs ≡ true → k < length xs → get_or xs k 0 < limit
unfolding all_small
small_at [] k h l = let z : ⊥ = omega arith in absurd z
small_at (x ∷ xs) zero h l = ltb-true _ _ (and_parts _ _ h).0
small_at (x ∷ xs) (suc k) h l = small_at xs k (and_parts (ltb x limit) _ h).1 (omega arith)

pub weighed_append : (xs ys : List ℕ) (k : ℕ) → weighed k (xs ++ ys) ≡ weighed k xs + weighed (k + length xs) ys
unfolding weighed
weighed_append [] ys k = let e : k + 0 ≡ k = omega arith in rw e (omega arith)
weighed_append (x ∷ xs) ys k =
    let e : suc k + length xs ≡ k + suc (length xs) = omega arith in
    let r = weighed_append xs ys (suc k) in
    rw (← e) (omega arith)

-- a chunk of n cells is followed by weights of n more; a shorter one is the last
pub weighed_behind : (k n : ℕ) (xs ys : List ℕ) → length xs ≡ min n (length (xs ++ ys)) → weighed k (xs ++ ys) ≡ weighed k xs + weighed (k + n) ys
unfolding weighed
weighed_behind k n xs [] h = weighed_append xs [] k
weighed_behind k n xs (y ∷ ys) h =
    let l = length-append xs (y ∷ ys) in
    let e : length xs ≡ n = omega arith in
    weighed_append xs (y ∷ ys) k ∙ ap (λ i. weighed k xs + weighed (k + i) (y ∷ ys)) e

-- a weight k more for each cell is k times their sum more
pub weighed_from : (xs : List ℕ) (k : ℕ) → weighed k xs ≡ k * sum xs + weighed 0 xs
unfolding weighed
weighed_from [] k = omega arith
weighed_from (x ∷ xs) k =
    let s = sum_by-cons (λ y. y) x xs in
    let r = weighed_from xs (suc k) in
    let r1 = weighed_from xs 1 in
    rw s (omega (arith, suc-mul k x, suc-mul k (sum xs), mul-add k x (sum xs)))

-- a factor may be taken modulo the limit
pub times_mod : (a b : ℕ) → (a % 2147483647 * b) % 2147483647 ≡ (a * b) % 2147483647
times_mod a b =
    let q = a / 2147483647 in
    let r = a % 2147483647 in
    let e : a * b ≡ 2147483647 * (q * b) + r * b =
    ap (λ n. n * b) (sym (div-add-mod a 2147483647)) ∙ add-mul (2147483647 * q) r b ∙ ap (λ n. n + r * b) (mul_assoc 2147483647 q b) in
    omega arith

-- and so may a weight
pub weighed_mod : (xs : List ℕ) (k : ℕ) → weighed (k % 2147483647) xs % 2147483647 ≡ weighed k xs % 2147483647
weighed_mod xs k =
    let r = weighed_from xs k in
    let r1 = weighed_from xs (k % 2147483647) in
    let t = times_mod k (sum xs) in
    omega arith

-- a product is at most that of two bounds
pub product_bound : (k x m n : ℕ) → k ≤ m → x ≤ n → k * x ≤ m * n
product_bound k x m n h l = mul-le-mul h l

-- the end of a loop over a row, and one turn
pub small_all : (xs : List ℕ) (i : ℕ) → length xs ≤ i → all_small (drop i xs) ≡ true
unfolding all_small
small_all xs i h = at_drop_all all_small xs i h

pub weighed_more : (k : ℕ) (xs : List ℕ) (i : ℕ) → i < length xs → weighed k (drop i xs) ≡ (k + 1) * get_or xs i 0 + weighed (k + 1) (drop (i + 1) xs)
unfolding weighed
weighed_more k xs i h = at_drop_more (weighed k) xs i 0 h ∙ simp add-one

pub weighed_all : (k : ℕ) (xs : List ℕ) (i : ℕ) → length xs ≤ i → weighed k (drop i xs) ≡ 0
unfolding weighed
weighed_all k xs i h = at_drop_all (weighed k) xs i h

pub sum_small : (c w : ℕ) (xs : List ℕ) → sum_of c w xs < limit
unfolding sum_of
sum_small c w xs = omega arith
