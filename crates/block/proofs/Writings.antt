-- What the writes of blocks leave.
use Rattle.std.proofs.Common.{◌≡◌, ℕ, zero, suc, ◌+◌, ◌-◌, ◌*◌, ◌%◌, ◌<◌, ◌≤◌, Bool, List, [], ◌∷◌, ◌++◌, length, get_or, take, drop, set, replicate, sym, refl, ap, ◌∙◌, append-nil, mul-add, arith, length-drop, length-set, length-take}
use lib.ListN.{length-replicate}
use borrow.Rule.Slice.PartMut.{put_mid}
use Rattle.std.proofs.lemmas.List.{drop_all}
use Rattle.block.specs.Cell.{limit, first_cell}
use Rattle.block.specs.Block.{weighed, sum_of, block_cells}

-- noughts add nothing to a checksum
weighed_noughts : (k n : ℕ) → weighed k (replicate n 0) ≡ 0
unfolding weighed
weighed_noughts k zero = refl
weighed_noughts k (suc n) = let r = weighed_noughts (suc k) n in omega arith

pub sum_noughts : (c w n : ℕ) → sum_of c w [] ≡ sum_of c w (replicate n 0)
unfolding sum_of weighed
sum_noughts c w n = let z = weighed_noughts 4 n in omega arith

-- the part of a slice that is lent behind a head
pub lent_long : (p : List ℕ) (w s : ℕ) → 3 ≤ length p → length (take (length (set (set p 1 w) 2 s) - 3) (drop 3 (set (set p 1 w) 2 s))) ≡ length p - 3
lent_long p w s l = simp (length-take, length-drop, length-set) (omega arith)

pub wrote_behind : (p : List ℕ) (w s : ℕ) (v : List ℕ) → 3 ≤ length p → put_mid 3 (length (set (set p 1 w) 2 s) - 3) (set (set p 1 w) 2 s) v ≡ get_or p 0 0 ∷ w ∷ s ∷ v
wrote_behind [] w s v l = absurd (omega arith)
wrote_behind (x ∷ []) w s v l = absurd (omega arith)
wrote_behind (x ∷ y ∷ []) w s v l = absurd (omega arith)
wrote_behind (x ∷ y ∷ z ∷ r) w s v l = ap (λ t. x ∷ w ∷ s ∷ (v ++ t)) (drop_all _ r (omega arith)) ∙ ap (λ t. x ∷ w ∷ s ∷ t) (append-nil v)

-- the weighed sum of a row with one cell changed
pub weighed_set : (k : ℕ) (r : List ℕ) (j x : ℕ) → j < length r → weighed k (set r j x) + (k + 1 + j) * get_or r j 0 ≡ weighed k r + (k + 1 + j) * x
unfolding weighed
weighed_set k [] j x h = absurd (omega arith)
weighed_set k (y ∷ ys) zero x h = let e : k + 1 + 0 ≡ suc k = omega arith in rw e (omega arith)
weighed_set k (y ∷ ys) (suc j) x h =
    let e : k + 1 + suc j ≡ suc k + 1 + j = omega arith in
    let ih = weighed_set (suc k) ys j x (omega arith) in
    rw e (omega arith)

-- the difference that a changed cell makes, modulo the limit
renewed : (s t w x y : ℕ) → t + w * y ≡ s + w * x → y ≤ 2147483647 → (s % 2147483647 + w * (x + 2147483647 - y)) % 2147483647 ≡ t % 2147483647
renewed s t w x y e l =
    let d : x + 2147483647 - y + y ≡ x + 2147483647 = omega arith in
    let f : w * (x + 2147483647 - y) + w * y ≡ w * x + w * 2147483647 = sym (mul-add w (x + 2147483647 - y) y) ∙ ap (λ n. w * n) d ∙ mul-add w x 2147483647 in
    omega arith

pub sum_set : (c w : ℕ) (r : List ℕ) (k x : ℕ) → k < length r → get_or r k 0 ≤ 2147483647 → (sum_of c w r + (k + 5) * (x + 2147483647 - get_or r k 0)) % 2147483647 ≡ sum_of c w (set r k x)
unfolding sum_of
sum_set c w r k x l y =
    let e : 4 + 1 + k ≡ k + 5 = omega arith in
    let s = rw e at (weighed_set 4 r k x l) in
    renewed (c + (3 * w + weighed 4 r)) (c + (3 * w + weighed 4 (set r k x))) (k + 5) x (get_or r k 0) (omega arith) y

-- a cell of the row and the checksum set are the block with that cell set
pub part_set : (u : Bool) (w : ℕ) (r : List ℕ) (k x s : ℕ) → k < length r → s ≡ sum_of (first_cell (length r) u) w (set r k x) → set (set (block_cells u w r) (3 + k) x) 2 s ≡ block_cells u w (set r k x)
unfolding block_cells
part_set u w r k x s l e =
    let z : 3 + k ≡ suc (suc (suc k)) = omega arith in
    let n = length-set r k x in
    rw (z, e, n) refl

-- a block of noughts, once its first cell is written too
pub wrote_first : (u : Bool) (w n c x : ℕ) (p : List ℕ) → c ≡ first_cell n u → p ≡ x ∷ w ∷ sum_of c w (replicate n 0) ∷ replicate n 0 → set p 0 c ≡ block_cells u w (replicate n 0)
unfolding block_cells
wrote_first u w n c x p e h =
    let l = length-replicate {A = ℕ} n 0 in
    rw (h, e, l) refl

-- as the code sets a cell of the row and renews the sum
pub row_cell_set : (p : List ℕ) (u : Bool) (w : ℕ) (r : List ℕ) (k x : ℕ) → p ≡ block_cells u w r → 3 + k < length p → get_or p (3 + k) 0 < limit → set (set p (3 + k) x) 2 ((get_or (set p (3 + k) x) 2 0 + (k + 5) * (x + 2147483647 - get_or p (3 + k) 0)) % 2147483647) ≡ block_cells u w (set r k x)
unfolding block_cells
row_cell_set p u w r k x e l s =
    let z : 3 + k ≡ suc (suc (suc k)) = omega arith in
    let n = ap length e in
    let inside : k < length r = omega arith in
    let was : get_or p (3 + k) 0 ≡ get_or r k 0 = ap (λ q. get_or q (3 + k) 0) e ∙ ap (λ i. get_or (block_cells u w r) i 0) z in
    let sum : get_or (set p (3 + k) x) 2 0 ≡ sum_of (first_cell (length r) u) w r = rw (e, z) refl in
    let new = sum_set (first_cell (length r) u) w r k x inside (omega arith) in
    ap (λ q. set (set q (3 + k) x) 2 ((get_or (set p (3 + k) x) 2 0 + (k + 5) * (x + 2147483647 - get_or p (3 + k) 0)) % 2147483647)) e ∙ part_set u w r k x _ inside (rw (sum, was) new)
