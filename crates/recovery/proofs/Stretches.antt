-- Mending in place: each free stretch as it is written, and what is written then.
use Rattle.std.proofs.Common.{◌≡◌, ℕ, zero, suc, ◌+◌, ◌-◌, ◌<◌, ◌≤◌, true, false, List, [], ◌++◌, length, get_or, take, drop, sym, refl, ap, ◌∙◌, append_assoc, append-nil, add-zero, add-suc, add-one, subst, arith, length-drop, take-add}
use borrow.Rule.Slice.PartMut.{put_mid}
use Rattle.std.proofs.lemmas.List.{drop-drop, drop_all, get_or-drop, take-append-drop}
use Rattle.std.proofs.lemmas.Slice.{take-put_mid, drop-put_mid}
use Rattle.block.specs.Cell.{row_length}
use Rattle.block.specs.Block.{at, long, size_for, size}
use Rattle.block.proofs.Blocks.{size_is}
use Rattle.shelf.proofs.Pieces.{length_flat}
use Rattle.requests.specs.Free.{free_pieces, free_cells}
use Rattle.requests.proofs.Frees.{free_total}
use Rattle.recovery.specs.Found.{found}
use Rattle.recovery.specs.Mend.{mend_from, mended, HalfMended}
use Rattle.recovery.proofs.Mends.{mend_past, mend_kept, mend_free}
use Rattle.recovery.proofs.Search.{found_fits}

pub free_length : (n : ℕ) → length (free_cells n) ≡ n
free_length n = length_flat (free_pieces n) ∙ free_total n

-- rows that agree from g on agree from any place behind it
pub rest_on : (s b : List ℕ) (g i : ℕ) → g ≤ i → drop g s ≡ drop g b → drop i s ≡ drop i b
rest_on s b g i l e =
    let n : g + (i - g) ≡ i = omega arith in
    ap (λ k. drop k s) (sym n) ∙ sym (drop-drop (i - g) g s) ∙ ap (drop (i - g)) e ∙ drop-drop (i - g) g b ∙ ap (λ k. drop k b) n

pub cell_on : (s b : List ℕ) (g i : ℕ) → g ≤ i → drop g s ≡ drop g b → at s i ≡ at b i
cell_on s b g i l e =
    let n : i + 0 ≡ i = omega arith in
    ap (at s) (sym n) ∙ sym (get_or-drop i s 0 0) ∙ ap (λ r. get_or r 0 0) (rest_on s b g i l e) ∙ get_or-drop i b 0 0 ∙ ap (at b) n

pub half_start : (b : List ℕ) → HalfMended b b 0 0
unfolding mended
half_start b = record { stretch = omega arith; within = omega arith; rest = refl; steps = length b; enough = omega arith; written = refl }

pub half_free : (b s : List ℕ) (g i : ℕ) → i < length b → found b i ≡ false → HalfMended b s g i → HalfMended b s g (i + 1)
half_free b s g i l t h = go h.steps h.enough h.written
  where
    go : (f : ℕ) → length b ≤ i + f → take g s ++ mend_from f b g i ≡ mended b → HalfMended b s g (i + 1)
    go zero e w = let z : ⊥ = omega arith in absurd z
    go (suc f) e w = record { stretch = omega (arith, h.stretch); within = omega arith; rest = h.rest; steps = f; enough = omega arith; written = ap (λ m. take g s ++ m) (sym (mend_free f b g i l t)) ∙ w }

-- as far as a place before which none is found
pub half_past : (b s : List ℕ) (g i : ℕ) → g ≤ i → i ≤ length b → ((q : ℕ) → g ≤ q → q < i → found b q ≡ false) → HalfMended b s g g → HalfMended b s g i
half_past b s g i l m none h = let e : g + (i - g) ≡ i = omega arith in subst (λ k. HalfMended b s g k) e (go (i - g) (omega arith))
  where
    go : (n : ℕ) → g + n ≤ i → HalfMended b s g (g + n)
    go zero o = rw (add-zero g) h
    go (suc n) o = rw (add-suc g n, sym (add-one (g + n))) (half_free b s g (g + n) (omega arith) (none (g + n) (omega arith) (omega arith)) (go n (omega arith)))

-- a stretch of free cells t is written from g up to a place i
module _ (b s t : List ℕ) (g i : ℕ) (le : g ≤ i) (on : i ≤ length s) (free : t ≡ free_cells (i - g)) (rest : drop g s ≡ drop g b) where
  t_length : length t ≡ i - g
  t_length = ap length free ∙ free_length (i - g)

  pub stretch_rest : (k : ℕ) → i ≤ k → drop k (put_mid g (i - g) s t) ≡ drop k b
  stretch_rest k l = drop-put_mid g (i - g) s t k (omega arith) (omega arith) t_length ∙ rest_on s b g k (omega arith) rest

  pub stretch_cell : at (put_mid g (i - g) s t) i ≡ at b i
  stretch_cell = cell_on (put_mid g (i - g) s t) b i i (omega arith) (stretch_rest i (omega arith))

  stretch_take : (k : ℕ) → take (i + k) (put_mid g (i - g) s t) ≡ take g s ++ (free_cells (i - g) ++ take k (drop i b))
  stretch_take k =
      let n = t_length in
      take-add i k (put_mid g (i - g) s t)
      ∙ (λ j. (take-put_mid g (i - g) s t i (omega arith) (omega arith) ∙ ap (λ r. take g s ++ r) free) j ++ take k (stretch_rest i (omega arith) j))
      ∙ append_assoc (take g s) (free_cells (i - g)) (take k (drop i b))

  pub half_kept : i < length b → found b i ≡ true → HalfMended b s g i → HalfMended b (put_mid g (i - g) s t) (i + size b i) (i + size b i)
  half_kept l f h = go h.steps h.enough h.written
    where
      go : (n : ℕ) → length b ≤ i + n → take g s ++ mend_from n b g i ≡ mended b → HalfMended b (put_mid g (i - g) s t) (i + size b i) (i + size b i)
      go zero e w = let z : ⊥ = omega arith in absurd z
      go (suc n) e w =
          let z = size_is (long b i) in
          let m = mend_from n b (i + size b i) (i + size b i) in
          record {
            stretch = omega arith;
            within = found_fits b i f;
            rest = stretch_rest (i + size b i) (omega arith);
            steps = n;
            enough = omega arith;
            written = ap (λ r. r ++ m) (stretch_take (size b i))
                ∙ append_assoc (take g s) (free_cells (i - g) ++ take (size b i) (drop i b)) m
                ∙ ap (λ r. take g s ++ r) (append_assoc (free_cells (i - g)) (take (size b i) (drop i b)) m ∙ sym (mend_kept n b g i l f))
                ∙ w;
          }

-- the last stretch
pub half_end : (b s t : List ℕ) (g i : ℕ) → length b ≤ i → length s ≡ length b → t ≡ free_cells (length b - g) → HalfMended b s g i → put_mid g (length b - g) s t ≡ mended b
half_end b s t g i l n free h =
    let none : drop (length b - g) (drop g s) ≡ [] = drop_all (length b - g) (drop g s) (simp length-drop (omega arith)) in
    ap (λ r. take g s ++ (t ++ r)) none ∙ ap (λ r. take g s ++ r) (append-nil t ∙ free ∙ sym (mend_past h.steps b g i l)) ∙ h.written

-- where there is nothing between, nothing is written
pub none_between : (s : List ℕ) (g i : ℕ) → g ≤ i → i ≤ g → s ≡ put_mid g (i - g) s (free_cells (i - g))
none_between s g i h l =
    let z : i - g ≡ 0 = omega arith in
    rw z (sym (take-append-drop g s))

-- at a block that is found the stretch before it is free, and one goes on behind it
pub half_block : (b s v : List ℕ) (g i n : ℕ) → i < length b → length s ≡ length b → found b i ≡ true → HalfMended b s g i → v ≡ put_mid g (i - g) s (free_cells (i - g)) →
    n ≡ size v i → HalfMended b v (i + n) (i + n)
half_block b s v g i n l e f h w d =
    let on : i ≤ length s = omega arith in
    let n_is : n ≡ size b i = d ∙ ap (λ x. size_for (row_length x)) (ap (λ q. at q i) w ∙ stretch_cell b s (free_cells (i - g)) g i h.stretch on refl h.rest) in
    rw (n_is, w) (half_kept b s (free_cells (i - g)) g i h.stretch on refl h.rest l f h)
