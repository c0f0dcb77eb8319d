-- What a part of a shelf holds once two parts of it were written one after the other.
use Rattle.std.proofs.Common.{◌≡◌, ℕ, ◌+◌, ◌-◌, ◌<◌, ◌≤◌, true, List, [], ◌∷◌, ◌++◌, length, get_or, take, drop, set, replicate, sym, ap, ◌∙◌, append-nil, arith, length-append, length-drop, length-take}
use lib.ListN.{length-replicate}
use borrow.Rule.Slice.PartMut.{put_mid}
use Rattle.std.proofs.lemmas.List.{drop_all, take_at, drop_at, get_or-take, get_or-drop}
use Rattle.block.specs.Cell.{first_cell}
use Rattle.block.specs.Block.{sum_of, block_cells}
use Rattle.block.proofs.Writings.{wrote_first}
use Rattle.requests.specs.Free.{noughts, free_cells}

-- the front and then the back of a part
two_parts : (q d t : List ℕ) (m : ℕ) → length q ≡ m → put_mid m (length (q ++ d) - m) (q ++ d) t ≡ q ++ t
two_parts q d t m e =
    let none : drop (length (q ++ d) - m) d ≡ [] = drop_all (length (q ++ d) - m) d (simp length-append (omega arith)) in
    (λ j. take_at q d m e j ++ (t ++ (ap (drop (length (q ++ d) - m)) (drop_at q d m e) ∙ none) j)) ∙ ap (λ z. q ++ z) (append-nil t)

pub wrote_taken : (p : List ℕ) (n w x c : ℕ) (q t : List ℕ) → 3 + n ≤ length p → c ≡ first_cell n true →
    q ≡ x ∷ w ∷ sum_of c w (replicate (length (take (3 + n) p) - 3) 0) ∷ replicate (length (take (3 + n) p) - 3) 0 →
    t ≡ free_cells (length (take (length (q ++ drop (3 + n) p) - (3 + n)) (drop (3 + n) (q ++ drop (3 + n) p)))) →
    set (put_mid (3 + n) (length (q ++ drop (3 + n) p) - (3 + n)) (q ++ drop (3 + n) p) t) 0 c ≡ block_cells true w (noughts n) ++ free_cells (length p - (3 + n))
wrote_taken p n w x c q t l ec e f =
    let m : length (take (3 + n) p) - 3 ≡ n = simp length-take (omega arith) in
    let e' : q ≡ x ∷ w ∷ sum_of c w (noughts n) ∷ noughts n = rw m at e in
    let z = length-replicate {A = ℕ} n 0 in
    let k : length q ≡ 3 + n = ap length e' ∙ omega arith in
    let lent : length (take (length (q ++ drop (3 + n) p) - (3 + n)) (drop (3 + n) (q ++ drop (3 + n) p))) ≡ length p - (3 + n) = simp (length-take, length-drop, length-append) (omega arith) in
    let front : set q 0 c ≡ block_cells true w (noughts n) = wrote_first true w n c x q ec e' in
    ap (λ r. set r 0 c) (two_parts q (drop (3 + n) p) t (3 + n) k)
    ∙ (ap (λ r. set (r ++ t) 0 c) e' ∙ ap (λ r. set r 0 c ++ t) (sym e'))
    ∙ (λ j. front j ++ (f ∙ ap free_cells lent) j)

-- the part of k cells that is lent from a place on
pub lent_long : (a : List ℕ) (p k : ℕ) → p + k ≤ length a → length (take (p + k - p) (drop p a)) ≡ k
lent_long a p k h = simp (length-take, length-drop) (omega arith)

pub lent_cell : (a : List ℕ) (p k i : ℕ) → i < k → get_or (take (p + k - p) (drop p a)) i 0 ≡ get_or a (p + i) 0
lent_cell a p k i h = let l : i < p + k - p = omega arith in rw (get_or-take, get_or-drop)

pub lent_between : (a : List ℕ) (p e : ℕ) → p ≤ e → e ≤ length a → length (take (e - p) (drop p a)) ≡ e - p
lent_between a p e h l = simp (length-take, length-drop) (omega arith)
