-- The laws of a block: the parts of the test, its one head, its cells alone, and that two never overlap.
use Rattle.std.proofs.Common.{◌≡◌, ℕ, ◌+◌, ◌-◌, ◌<◌, ◌≤◌, true, List, length, get_or, sym, refl, ◌∙◌, inl, inr, arith, length-drop, length-take, get_or-drop, get_or-take, ext_get_or}
use Rattle.std.proofs.lemmas.Bool.{ltb-true, leb-true, eqb-true, and_parts, and_from, le-leb, lt-ltb, eq-eqb, cases_lt, cases_order}
use Rattle.block.specs.Cell.{limit}
use Rattle.block.specs.Block.{at, long, size_for, size, content, block, used, in_block}
use Rattle.block.specs.Laws.{Parts, Alike, ToldByParts, HasOneHead, NeverOverlap, ToldByOwnCells}
use Rattle.block.proofs.Cells.{is_first_parts, is_first_from}
use Rattle.block.proofs.Rows.{small_at, sum_small}

pub parts : (a : List ℕ) (i : ℕ) → block a i ≡ true → Parts a i
unfolding block
parts a i h =
    let p = and_parts _ _ h in
    let q = is_first_parts (at a i) p.0 in
    let r = and_parts _ _ p.1 in
    let s = and_parts _ _ r.1 in
    let t = and_parts _ _ s.1 in
    record { head = q.0; live = q.1; fits = leb-true _ _ r.0; owner = ltb-true _ _ s.0; small = t.0; sum = eqb-true _ _ t.1 }

pub parts_back : (a : List ℕ) (i : ℕ) → Parts a i → block a i ≡ true
unfolding block
parts_back a i p =
    and_from _ _ (is_first_from (at a i) p.head p.live)
    (and_from _ _ (le-leb _ _ p.fits) (and_from _ _ (lt-ltb _ _ p.owner) (and_from _ _ p.small (eq-eqb _ _ p.sum))))

-- a block has the cells of its head and of its row
pub size_is : (n : ℕ) → size_for n ≡ 3 + n
unfolding size_for
size_is n = refl

pub size_pos : (n : ℕ) → 0 < size_for n
size_pos n = let s = size_is n in omega arith

-- the row, by its cells
pub content_length : (a : List ℕ) (i : ℕ) → i + size a i ≤ length a → length (content a i) ≡ long a i
unfolding content
content_length a i h = let s = size_is (long a i) in simp (length-take, length-drop) (omega arith)

pub content_at : (a : List ℕ) (i k : ℕ) → k < long a i → get_or (content a i) k 0 ≡ at a (i + 3 + k)
unfolding content
content_at a i k h = rw (get_or-take, get_or-drop)

-- no other cell of a block is a head's
pub tail : (a : List ℕ) (i k : ℕ) → block a i ≡ true → i < k → k < i + size a i → at a k < limit
tail a i k h l m =
    let p = parts a i h in
    let s = size_is (long a i) in
    elim (cases_order k (i + 2)) [
      | inl e ↦ rw (e, p.sum) (sum_small _ _ _)
      | inr (inl e) ↦ let e' : k ≡ i + 1 = omega arith in rw e' p.owner
      | inr (inr e) ↦
          let q : i + 3 + (k - (i + 3)) ≡ k = omega arith in
          let c : k - (i + 3) < long a i = omega arith in
          let n = content_length a i p.fits in
          let small = small_at (content a i) (k - (i + 3)) p.small (omega arith) in
          rw (content_at a i (k - (i + 3)) c, q) at small
    ]

pub told_by_parts : ToldByParts
told_by_parts a i = (parts a i, parts_back a i)

pub has_one_head : HasOneHead
has_one_head a i h = let p = parts a i h in record { first = p.head; live = p.live; others = λ k l m. tail a i k h l m }

pub never_overlap : NeverOverlap
never_overlap a i j h k l = elim (cases_lt j (i + size a i)) [
  | inr e ↦ e
  | inl e ↦ let t = tail a i j h l e in let u = (parts a j k).head in let z : ⊥ = omega arith in absurd z
]

-- cells alike, blocks alike
module _ (a b : List ℕ) (i : ℕ) (fits : i + size a i ≤ length a) (fits_too : i + size a i ≤ length b) (cells : (k : ℕ) → in_block a i k → at b k ≡ at a k) where
  here : (k : ℕ) → k < size a i → at b (i + k) ≡ at a (i + k)
  here k h = cells (i + k) (omega arith, omega arith)

  first_is : at b i ≡ at a i
  first_is = let s = size_is (long a i) in cells i (omega arith, omega arith)

  local_long : long b i ≡ long a i
  local_long = rw first_is

  local_size : size b i ≡ size a i
  local_size = rw first_is

  local_content : content b i ≡ content a i
  local_content =
      let s = size_is (long a i) in
      let e = local_long in
      let f = local_size in
      let ca = content_length a i fits in
      let cb = content_length b i (omega arith) in
      ext_get_or 0 (content b i) (content a i) (omega arith)
      (λ k l. let l' : k < long a i = omega arith in content_at b i k (omega arith) ∙ (cells (i + 3 + k) (omega arith, omega arith) ∙ sym (content_at a i k l')))

  local_block : block b i ≡ block a i
  unfolding block
  local_block =
      let s = size_is (long a i) in
      let e1 = cells (i + 1) (omega arith, omega arith) in
      let e2 = cells (i + 2) (omega arith, omega arith) in
      rw (local_size, local_content, first_is, e1, e2, le-leb _ _ fits, le-leb _ _ fits_too)

  pub alike : Alike a b i
  unfolding used
  alike =
      let s = size_is (long a i) in
      record {
        stands = local_block;
        in_use_is = rw (local_block, first_is);
        long_is = local_long;
        size_is = local_size;
        whose_is = cells (i + 1) (omega arith, omega arith);
        content_is = local_content;
      }

pub told_by_own_cells : ToldByOwnCells
told_by_own_cells a b i f g cells = alike a b i f g cells
