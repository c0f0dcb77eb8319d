-- A block of which one cell was hit does not stand: each cell has a factor in the sum that the prime doesn't divide.
use Rattle.std.proofs.Common.{◌≡◌, ℕ, zero, suc, ◌+◌, ◌-◌, ◌*◌, ◌%◌, ◌<◌, ◌≤◌, List, [], ◌∷◌, length, get_or, set, sym, ap, ◌∙◌, inl, inr, mul-add, arith, length-set, get_or-set_other, get_or-set_same, ext_get_or}
use Rattle.std.proofs.lemmas.Bool.{cases_eq, cases_order, cases_Bool}
use Rattle.block.specs.Cell.{dead, row_length}
use Rattle.block.specs.Block.{at, long, whose, size, content, weighed, sum_of, block, in_block}
use Rattle.block.specs.Laws.{Parts}
use Rattle.block.proofs.Blocks.{parts, size_is, content_length, content_at}
use Rattle.block.proofs.Rows.{small_at}
use Rattle.recovery.specs.Hits.{UnharmedBut, OneHitSeen}
use Rattle.recovery.proofs.Prime.{limit_is_prime}

-- a factor below the prime tells numbers below it apart
grows : (m u v s t : ℕ) → 0 < m → m < 2147483647 → v < 2147483647 → t + m * u ≡ s + m * v → t % 2147483647 ≡ s % 2147483647 → u < v → ⊥
grows m u v s t l b n e h o =
    let d : u + (v - u) ≡ v = omega arith in
    let f : m * (u + (v - u)) ≡ m * v = ap (λ x. m * x) d in
    limit_is_prime m (v - u) l b (omega arith) (omega arith) (rest (m * (v - u)) (omega (arith, mul-add m u (v - u))))
  where
    rest : (w : ℕ) → t ≡ s + w → w % 2147483647 ≡ 0
    rest w g = omega arith

pub cancel : (m u v s t : ℕ) → 0 < m → m < 2147483647 → u < 2147483647 → v < 2147483647 → t + m * u ≡ s + m * v → t % 2147483647 ≡ s % 2147483647 → u ≡ v
cancel m u v s t l b n o e h = elim (cases_order u v) [
  | inl q ↦ q
  | inr (inl q) ↦ absurd (grows m u v s t l b o e h q)
  | inr (inr q) ↦ absurd (grows m v u t s l b n (sym e) (sym h) q)
]

-- the weighed sum of a row after one cell was set
pub weighed_set : (k : ℕ) (r : List ℕ) (j x : ℕ) → j < length r → weighed k (set r j x) + suc (k + j) * get_or r j 0 ≡ weighed k r + suc (k + j) * x
unfolding weighed
weighed_set k [] j x h = absurd (omega arith)
weighed_set k (y ∷ ys) zero x h = omega arith
weighed_set k (y ∷ ys) (suc j) x h = let r = weighed_set (suc k) ys j x (omega arith) in omega arith

-- in the sum of a block: the first cell, the owner, the row
first_seen : (h g c : ℕ) → 2147483648 ≤ h → h < 4294967295 → 2147483648 ≤ g → g < 4294967295 → (h + c) % 2147483647 ≡ (g + c) % 2147483647 → g ≡ h
first_seen h g c l m n o e = omega arith

owner_seen : (h w v c : ℕ) → w < 2147483647 → v < 2147483647 → (h + (3 * w + c)) % 2147483647 ≡ (h + (3 * v + c)) % 2147483647 → v ≡ w
owner_seen h w v c l m e = sym (cancel 3 w v (h + (3 * w + c)) (h + (3 * v + c)) (omega arith) (omega arith) l m (omega arith) (sym e))

row_seen : (h w c d : ℕ) → (h + (3 * w + c)) % 2147483647 ≡ (h + (3 * w + d)) % 2147483647 → d % 2147483647 ≡ c % 2147483647
row_seen h w c d e = omega arith

-- a row is short enough that its factors are below the prime
row_short : (c : ℕ) → c < dead → row_length c < 1073741824
unfolding row_length
row_short c h = omega arith

-- two blocks at one place, as long as each other, whose cells agree but at k: they agree there too
module _ (a b : List ℕ) (i k : ℕ) (p : Parts a i) (q : Parts b i) (same : long b i ≡ long a i) (but : UnharmedBut a b i k) where
  cell : (n : ℕ) → n < size a i → (i + n ≡ k → ⊥) → at b (i + n) ≡ at a (i + n)
  cell n l o = but (i + n) (omega arith, omega arith) o

  first_kept : (i ≡ k → ⊥) → at b i ≡ at a i
  first_kept o = let s = size_is (long a i) in but i (omega arith, omega arith) o

  owner_kept : (i + 1 ≡ k → ⊥) → whose b i ≡ whose a i
  owner_kept o = let s = size_is (long a i) in cell 1 (omega arith) o

  sums : (i + 2 ≡ k → ⊥) → sum_of (at a i) (whose a i) (content a i) ≡ sum_of (at b i) (whose b i) (content b i)
  sums o = let s = size_is (long a i) in sym p.sum ∙ sym (cell 2 (omega arith) o) ∙ q.sum

  lengths : length (content b i) ≡ length (content a i)
  lengths = content_length b i q.fits ∙ same ∙ sym (content_length a i p.fits)

  row_cell : (n : ℕ) → n < long a i → (i + 3 + n ≡ k → ⊥) → get_or (content b i) n 0 ≡ get_or (content a i) n 0
  row_cell n l o =
      let s = size_is (long a i) in
      content_at b i n (omega arith) ∙ but (i + 3 + n) (omega arith, omega arith) o ∙ sym (content_at a i n l)

  row_kept : k < i + 3 → content b i ≡ content a i
  row_kept l =
      let c = content_length b i q.fits in
      ext_get_or 0 (content b i) (content a i) lengths (λ n m. row_cell n (omega arith) (λ e. omega arith))

  -- the row of b is that of a with one cell set
  row_set : (n : ℕ) → i + 3 + n ≡ k → n < long a i → content b i ≡ set (content a i) n (get_or (content b i) n 0)
  row_set n e l =
      let c = content_length b i q.fits in
      let d = content_length a i p.fits in
      let x = get_or (content b i) n 0 in
      ext_get_or 0 (content b i) (set (content a i) n x) (lengths ∙ sym (length-set (content a i) n x))
      (λ m h. elim (cases_eq m n) [
        | inl f ↦ rw (f, get_or-set_same (content a i) n x 0 (omega arith))
        | inr f ↦ row_cell m (omega arith) (λ g. f (omega arith)) ∙ sym (get_or-set_other (content a i) n m x 0 f)
      ])

  first_stays : i ≡ k → at b k ≡ at a k
  unfolding sum_of
  first_stays e =
      let s = rw (owner_kept (λ z. omega arith), row_kept (omega arith)) at (sums (λ z. omega arith)) in
      rw (← e) (first_seen (at a i) (at b i) (3 * whose a i + weighed 4 (content a i)) p.head p.live q.head q.live s)

  owner_stays : i + 1 ≡ k → at b k ≡ at a k
  unfolding sum_of
  owner_stays e =
      let s = rw (first_kept (λ z. omega arith), row_kept (omega arith)) at (sums (λ z. omega arith)) in
      rw (← e) (owner_seen (at a i) (whose a i) (whose b i) (weighed 4 (content a i)) p.owner q.owner s)

  sum_stays : i + 2 ≡ k → at b k ≡ at a k
  sum_stays e = rw (← e, q.sum, first_kept (λ z. omega arith), owner_kept (λ z. omega arith), row_kept (omega arith), p.sum)

  row_stays : i + 3 ≤ k → k < i + size a i → at b k ≡ at a k
  unfolding sum_of
  row_stays l m =
      let z = size_is (long a i) in
      let n = k - (i + 3) in
      let e : i + 3 + n ≡ k = omega arith in
      let t = row_short (at a i) p.live in
      let x = get_or (content a i) n 0 in
      let y = get_or (content b i) n 0 in
      let ca = content_length a i p.fits in
      let cb = content_length b i q.fits in
      let s = rw (first_kept (λ z. omega arith), owner_kept (λ z. omega arith)) at (sums (λ z. omega arith)) in
      let w : weighed 4 (content b i) + suc (4 + n) * x ≡ weighed 4 (content a i) + suc (4 + n) * y =
      ap (λ r. weighed 4 r + suc (4 + n) * x) (row_set n e (omega arith)) ∙ weighed_set 4 (content a i) n y (omega arith) in
      let r = cancel (suc (4 + n)) x y (weighed 4 (content a i)) (weighed 4 (content b i)) (omega arith) (omega arith)
      (small_at (content a i) n p.small (omega arith)) (small_at (content b i) n q.small (omega arith)) w
      (row_seen (at a i) (whose a i) (weighed 4 (content a i)) (weighed 4 (content b i)) s) in
      rw (← e, ← content_at b i n (omega arith), ← content_at a i n (omega arith)) (sym r)

  stays : in_block a i k → at b k ≡ at a k
  stays l = elim (cases_eq i k) [
    | inl e ↦ first_stays e
    | inr e ↦ elim (cases_eq (i + 1) k) [
      | inl f ↦ owner_stays f
      | inr f ↦ elim (cases_eq (i + 2) k) [ inl g ↦ sum_stays g | inr g ↦ row_stays (omega arith) l.1 ]
    ]
  ]

pub one_hit_seen : OneHitSeen
one_hit_seen a b i k s len l but hit same = elim (cases_Bool (block b i)) [
  | inl e ↦ absurd (hit (stays a b i k (parts a i s) (parts b i e) same but l))
  | inr e ↦ e
]
