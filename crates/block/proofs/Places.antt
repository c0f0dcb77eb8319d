-- What a part from a place on tells of the cells that stand there.
use Rattle.std.proofs.Common.{◌≡◌, ℕ, ◌+◌, ◌-◌, ◌≤◌, true, ◌&&◌, ◌==◌, nat_lt, nat_le, List, [], length, get_or, take, drop, slice_range, Option, Some, None, Bor, unwrap_or, if◌then◌else◌, sym, ap, ◌∙◌, arith}
use Rattle.std.specs.Slice.{IsGetRangeResult}
use Rattle.std.proofs.lemmas.Bool.{le-leb}
use Rattle.std.proofs.lemmas.Bool.Decides.{nat_tests}
use Rattle.std.proofs.lemmas.List.{take_all, drop-drop, length-drop, get_or-drop}
use Rattle.block.specs.Cell.{limit, is_first, row_length}
use Rattle.block.specs.Block.{at, long, size, size_for, content, sum_of, all_small, block}

pub rest_is : (l : List ℕ) (i : ℕ) → slice_range l i (length l) ≡ drop i l
rest_is l i = take_all (length l - i) (drop i l) (omega (arith, length-drop i l))

-- the part p from i on, and its cells behind the first three
pub record Head (a : List ℕ) (i : ℕ) (p : List ℕ) : Type 0 where
  pub first : get_or p 0 0 ≡ at a i
  pub owner : get_or p 1 0 ≡ at a (i + 1)
  pub sum : get_or p 2 0 ≡ at a (i + 2)
  pub row : (n : ℕ) → take n (slice_range p 3 (length p)) ≡ take n (drop (i + 3) a)
  pub long : length p + i ≡ length a
  pub behind : length (slice_range p 3 (length p)) ≡ length p - 3

pub head_at : (a : List ℕ) (i : ℕ) (p : List ℕ) → i ≤ length a → p ≡ drop i a → Head a i p
head_at a i p l r =
    let z : i + 0 ≡ i = omega arith in
    record {
      first = rw (r, get_or-drop, z);
      owner = rw (r, get_or-drop);
      sum = rw (r, get_or-drop);
      row = λ n. rw (rest_is p 3, r, drop-drop);
      long = rw (r, length-drop) (omega arith);
      behind = ap length (rest_is p 3) ∙ length-drop 3 p;
    }

-- what is left of the test for a block, once its first cell is a head's and its row ends on the shelf
pub block_from : (a : List ℕ) (i : ℕ) (p row : List ℕ) (n : ℕ) → Head a i p → is_first (get_or p 0 0) ≡ true → row_length (get_or p 0 0) ≡ n → row ≡ take n (slice_range p 3 (length p)) → n ≤ length (slice_range p 3 (length p)) → 3 ≤ length p
    → block a i ≡ (nat_lt (get_or p 1 0) limit && (all_small row && get_or p 2 0 == sum_of (get_or p 0 0) (get_or p 1 0) row))
unfolding block content size_for
block_from a i p row n h f e r l m =
    let d = h.behind in
    let k = h.row n in
    let g = h.long in
    let long_is : long a i ≡ n = ap row_length (sym h.first) ∙ e in
    let fits : i + size a i ≤ length a = rw long_is (omega arith) in
    let head : is_first (at a i) ≡ true = rw h.first at f in
    rw (h.first, h.owner, h.sum, r, k, head, le-leb _ _ fits, long_is)

-- the row, where it ends on the shelf
pub row_from : (a : List ℕ) (i : ℕ) (p : List ℕ) (n : ℕ) (r : Option (Bor (List ℕ))) (none : Bor (List ℕ)) → Head a i p → 3 ≤ length p → n ≡ row_length (get_or p 0 0) → IsGetRangeResult (slice_range p 3 (length p)) 0 n r → none.now ≡ []
    → (unwrap_or r none).now ≡ (if nat_le (i + size a i) (length a) then content a i else [])
unfolding content size_for
row_from a i p n (Some x) none h m e f z =
    let d = h.behind in
    let long_is : long a i ≡ n = ap row_length (sym h.first) ∙ sym e in
    let q = f.0 in
    let g = h.long in
    let fits : i + size a i ≤ length a = rw long_is (omega arith) in
    let all : n - 0 ≡ n = omega arith in
    rw (le-leb _ _ fits, long_is) (q.2 ∙ rw all (h.row n))
row_from a i p n None none h m e f z =
    let d = h.behind in
    let long_is : long a i ≡ n = ap row_length (sym h.first) ∙ sym e in
    let q = f.0 in
    let g = h.long in
    grind (arith, nat_tests)
