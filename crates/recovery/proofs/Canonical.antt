-- Mending changes no cell of a sound shelf whose free blocks are as they are written.
use Rattle.std.proofs.Common.{◌≡◌, ℕ, zero, suc, ◌+◌, ◌-◌, ◌<◌, ◌≤◌, true, false, not, ◌⊎◌, List, [], ◌∷◌, ◌++◌, map, length, take, drop, sym, refl, ap, ◌∙◌, inl, inr, append-nil, add-zero, zero-add, arith}
use Rattle.std.proofs.lemmas.List.{take_at}
use Rattle.std.proofs.lemmas.Bool.{both_ways, false≢true, and_parts, eqb-true, cases_Bool, cases_lt}
use Rattle.block.specs.Cell.{dead}
use Rattle.block.specs.Block.{at, size_for, size, used, block_cells}
use Rattle.block.proofs.Blocks.{parts, size_is, size_pos, tail}
use Rattle.shelf.specs.Pieces.{Piece, gap, blk, cells, flat, Fine, AllFine, kind, idle_first, tidy, SoundPieces}
use Rattle.shelf.proofs.Pieces.{At, at_start, at_more, at_end, inside, length_cells, stands, dead_here}
use Rattle.shelf.proofs.Places.{used_parts, used_from, sound_places}
use Rattle.shelf.proofs.Sounds.{pieces_sound}
use Rattle.requests.specs.Laws.{AsWritten, AllAsWritten, Canonical}
use Rattle.requests.specs.Free.{noughts, free_cells}
use Rattle.requests.proofs.Frees.{free_many}
use Rattle.recovery.specs.Found.{found}
use Rattle.recovery.specs.Mend.{mend_from, mended}
use Rattle.recovery.specs.Promise.{KeptByMending}
use Rattle.recovery.proofs.Places.{same_place}
use Rattle.recovery.proofs.Promises.{used_block, found_used, used_is_found}
use Rattle.recovery.proofs.Mends.{mend_past, mend_kept, mend_free}
use Rattle.recovery.proofs.Mended.{mended_is, mended_canonical}
use Rattle.recovery.proofs.Kept.{sound_twice, saves_row, adds_row, stays_row}

-- nothing in use begins where something is free
dead_unused : (a : List ℕ) (i : ℕ) (xs : List Piece) → At a i (gap ∷ xs) → used a i ≡ true → ⊥
dead_unused a i xs h u = let l = (parts a i (used_block a i u)).live in let e : at a i ≡ dead = eqb-true _ _ (dead_here a i xs h) in omega arith

free_unused : (a : List ℕ) (i : ℕ) (w : ℕ) (r : List ℕ) (xs : List Piece) → Fine (blk false w r) → At a i (blk false w r ∷ xs) → (k : ℕ) → i ≤ k → k < i + size_for (length r) → used a k ≡ true → ⊥
free_unused a i w r xs f h k l m u =
    let s = stands a i false w r xs f h in
    elim (cases_lt i k) [
      | inr e ↦ both_ways _ s.in_use_is (used_parts a i (rw (same_place k i l e) at u)).1
      | inl e ↦
          let n = ap size_for s.long_is in
          let t = tail a i k s.stands e (omega arith) in
          let p = (parts a k (used_block a k u)).head in
          omega arith
    ]

-- where nothing is in use nothing is written
skip : (a : List ℕ) (n f g i : ℕ) → i + n ≤ length a → ((k : ℕ) → i ≤ k → k < i + n → used a k ≡ true → ⊥) → mend_from (n + f) a g i ≡ mend_from f a g (i + n)
skip a zero f g i l none = rw (zero-add f, add-zero i)
skip a (suc n) f g i l none =
    let fails : found a i ≡ false = elim (cases_Bool (found a i)) [ inr e ↦ e | inl e ↦ absurd (none i (omega arith) (omega arith) (found_used a i e)) ] in
    let e : i + 1 + n ≡ i + suc n = omega arith in
    let fuel : suc n + f ≡ suc (n + f) = omega arith in
    ap (λ m. mend_from m a g i) fuel ∙ mend_free (n + f) a g i (omega arith) fails ∙ skip a n f g (i + 1) (omega arith) (λ k x y u. none k (omega arith) (omega arith) u) ∙ ap (mend_from f a g) e

-- the open stretch that begins at g is free, and so is what comes next only if none is open
module _ (a : List ℕ) (all : (i : ℕ) → found a i ≡ used a i) where
  abbrev Same : List Piece → Type 0
  Same its = (f g i : ℕ) → g ≤ i → (i ≡ g) ⊎ (not (idle_first (map kind its)) ≡ true) → At a i its → length a ≤ i + f → mend_from f a g i ≡ free_cells (i - g) ++ flat its

  same_end : Same []
  same_end f g i l o h m = let e = at_end a i h in let n : length a - g ≡ i - g = omega arith in mend_past f a g i (omega arith) ∙ ap free_cells n ∙ sym (append-nil (free_cells (i - g)))

  same_used : (w : ℕ) (r : List ℕ) (xs : List Piece) → Fine (blk true w r) → Same xs → Same (blk true w r ∷ xs)
  same_used w r xs q ih zero g i l o h m = let z = inside a i (blk true w r) xs h in absurd (omega arith)
  same_used w r xs q ih (suc f) g i l o h m =
      let s = stands a i true w r xs q h in
      let n = ap size_for s.long_is in
      let t = all i ∙ used_from a i s.stands s.in_use_is in
      let p = size_pos (length r) in
      let front : take (size a i) (drop i a) ≡ cells (blk true w r) = ap (take (size a i)) h.rest ∙ take_at (cells (blk true w r)) (flat xs) (size a i) (length_cells (blk true w r) ∙ sym n) in
      let on : At a (i + size a i) xs = rw n (at_more a i (blk true w r) xs h) in
      let none : i + size a i - (i + size a i) ≡ 0 = omega arith in
      let back = ih f (i + size a i) (i + size a i) (omega arith) (inl refl) on (omega arith) ∙ ap (λ k. free_cells k ++ flat xs) none in
      mend_kept f a g i (inside a i (blk true w r) xs h) t ∙ (λ j. free_cells (i - g) ++ (front j ++ back j))

  -- what is free and stands before what isn't is written as it was
  over : (n : ℕ) (cs : List ℕ) (xs : List Piece) → cs ≡ free_cells n → Same xs → not (idle_first (map kind xs)) ≡ true → (f g i : ℕ) → i ≡ g → At a (i + n) xs → length a ≤ i + f →
      ((k : ℕ) → i ≤ k → k < i + n → used a k ≡ true → ⊥) → mend_from f a g i ≡ free_cells (i - g) ++ (cs ++ flat xs)
  over n cs xs e ih o f g i d h m none =
      let l = h.long in
      let fuel : n + (f - n) ≡ f = omega arith in
      let long : i + n - g ≡ n = omega arith in
      let start : i - g ≡ 0 = omega arith in
      rw start (ap (λ k. mend_from k a g i) (sym fuel) ∙ skip a n (f - n) g i (omega arith) none ∙ ih (f - n) g (i + n) (omega arith) (inr o) h (omega arith) ∙ (λ j. (ap free_cells long ∙ sym e) j ++ flat xs))

  free_written : (w : ℕ) (r : List ℕ) → AsWritten (blk false w r) → cells (blk false w r) ≡ free_cells (size_for (length r))
  free_written w r z =
      let s = size_is (length r) in
      let n : length r ≡ size_for (length r) - 3 = omega arith in
      (λ j. block_cells false (z.0 j) ((z.1 ∙ ap noughts n) j)) ∙ free_many (size_for (length r)) (omega arith)

  at_two : (i : ℕ) (xs : List Piece) → At a i (gap ∷ gap ∷ xs) → At a (i + 2) xs
  at_two i xs h = let e : i + 1 + 1 ≡ i + 2 = omega arith in rw e at (at_more a (i + 1) gap xs (at_more a i gap (gap ∷ xs) h))

  one_unused : (i : ℕ) (xs : List Piece) → At a i (gap ∷ xs) → (k : ℕ) → i ≤ k → k < i + 1 → used a k ≡ true → ⊥
  one_unused i xs h k l m u = dead_unused a i xs h (rw (same_place k i l (omega arith)) at u)

  two_unused : (i : ℕ) (xs : List Piece) → At a i (gap ∷ gap ∷ xs) → (k : ℕ) → i ≤ k → k < i + 2 → used a k ≡ true → ⊥
  two_unused i xs h k l m u = elim (cases_lt k (i + 1)) [ inl n ↦ one_unused i (gap ∷ xs) h k l n u | inr n ↦ one_unused (i + 1) xs (at_more a i gap (gap ∷ xs) h) k n (omega arith) u ]

  same : (its : List Piece) → AllFine its → AllAsWritten its → tidy (map kind its) ≡ true → Same its
  same [] q z t f g i l o h m = same_end f g i l o h m
  same (blk true w r ∷ xs) q z t f g i l o h m = same_used w r xs q.0 (same xs q.1 z.1 t) f g i l o h m
  same (blk false w r ∷ xs) q z t f g i l (inr o) h m = absurd (false≢true o)
  same (blk false w r ∷ xs) q z t f g i l (inl e) h m =
      let p = and_parts _ _ t in
      over (size_for (length r)) (cells (blk false w r)) xs (free_written w r z.0) (same xs q.1 z.1 p.1) p.0 f g i e (at_more a i (blk false w r) xs h) m (free_unused a i w r xs q.0 h)
  same (gap ∷ xs) q z t f g i l (inr o) h m = absurd (false≢true o)
  same (gap ∷ []) q z t f g i l (inl e) h m = over 1 (dead ∷ []) [] refl same_end refl f g i e (at_more a i gap [] h) m (one_unused i [] h)
  same (gap ∷ gap ∷ xs) q z t f g i l (inl e) h m =
      let p = and_parts _ _ t in
      over 2 (dead ∷ dead ∷ []) xs refl (same xs q.1.1 z.1.1 (and_parts _ _ p.1).1) p.0 f g i e (at_two i xs h) m (two_unused i xs h)
  same (gap ∷ blk true w r ∷ xs) q z t f g i l (inl e) h m =
      over 1 (dead ∷ []) (blk true w r ∷ xs) refl (same (blk true w r ∷ xs) q.1 z.1 t) refl f g i e (at_more a i gap (blk true w r ∷ xs) h) m (one_unused i (blk true w r ∷ xs) h)
  same (gap ∷ blk false w r ∷ xs) q z t f g i l (inl e) h m = absurd (false≢true t)

pieces_stay : (its : List Piece) → SoundPieces its → AllAsWritten its → mended (flat its) ≡ flat its
unfolding mended
pieces_stay its s z =
    let b = flat its in
    same b (used_is_found b (sound_twice b (sound_places b (pieces_sound its s)))) its s.fine z s.tidied (length b) 0 0 (omega arith) (inl refl) (at_start its) (omega arith)

pub canonical_stays : (a : List ℕ) → Canonical a → mended a ≡ a
canonical_stays a c = ap mended c.whole ∙ pieces_stay c.its c.good c.written ∙ sym c.whole

-- all that mending keeps
pub kept_by_mending : (b : List ℕ) → length b ≤ 100000 → KeptByMending b (mended b)
kept_by_mending b short =
    let m = mended_is b short in
    record {
      saves = saves_row b (mended b) m;
      adds = adds_row b (mended b) m;
      stays = stays_row b (mended b) m;
      unchanged = canonical_stays b;
      settled = mended_canonical b short;
    }
