-- Mending step by step, and the pieces that it makes: free ones between the blocks that are found.
use Rattle.std.proofs.Common.{◌≡◌, ℕ, zero, suc, ◌+◌, ◌-◌, ◌<◌, ◌≤◌, Bool, true, false, cond, not, eqb, List, [], ◌∷◌, ◌++◌, map, length, take, drop, sym, refl, ap, ◌∙◌, inl, inr, append-nil, add-zero, arith}
use lib.ListN.{length-replicate}
use Rattle.std.proofs.lemmas.List.{take_at, map-append}
use Rattle.std.proofs.lemmas.Bool.{both_ways, not_from_false, and_from, or_parts, cases_Bool, cases_lt, eqb-true, lt-ltb, le-ltb, eq-eqb, ne_eqb}
use Rattle.block.specs.Block.{long, in_use, whose, size, content, block}
use Rattle.block.proofs.Blocks.{size_is, content_length}
use Rattle.block.proofs.Written.{block_cells_length, read}
use Rattle.shelf.specs.Walk.{held}
use Rattle.shelf.specs.Pieces.{Piece, blk, cells, flat, extent, total, Fine, AllFine, used_by, held_of, kind, tidy, owners, elem, nodup}
use Rattle.shelf.proofs.Looks.{seek, has, has_is}
use Rattle.shelf.proofs.Places.{used_parts}
use Rattle.requests.specs.Free.{noughts, free_pieces, free_cells}
use Rattle.requests.proofs.Edits.{flat_append, total_append, owners_append, fine_both, seek_skip, held_skip}
use Rattle.requests.proofs.Frees.{free_total, free_fine, free_none, free_owners, free_tidy}
use Rattle.recovery.specs.Found.{found}
use Rattle.requests.specs.Laws.{AllAsWritten}
use Rattle.recovery.specs.Mend.{mend_from}
use Rattle.recovery.proofs.Places.{same_place}
use Rattle.recovery.proofs.Promises.{found_used, found_is_first, apart}
use Rattle.recovery.proofs.Search.{found_fits, found_within}

-- what mending does at a place
pub data Here (b : List ℕ) (i : ℕ) : Type 0 where
  past : length b ≤ i → Here b i
  kept : i < length b → found b i ≡ true → Here b i
  free : i < length b → found b i ≡ false → Here b i

pub here : (b : List ℕ) (i : ℕ) → Here b i
here b i = elim (cases_lt i (length b)) [
  | inr h ↦ past h
  | inl h ↦ elim (cases_Bool (found b i)) [ inl t ↦ kept h t | inr t ↦ free h t ]
]

pub mend_past : (f : ℕ) (b : List ℕ) (g i : ℕ) → length b ≤ i → mend_from f b g i ≡ free_cells (length b - g)
unfolding mend_from
mend_past zero b g i h = refl
mend_past (suc f) b g i h = rw (le-ltb i (length b) h)

pub mend_kept : (f : ℕ) (b : List ℕ) (g i : ℕ) → i < length b → found b i ≡ true →
    mend_from (suc f) b g i ≡ free_cells (i - g) ++ (take (size b i) (drop i b) ++ mend_from f b (i + size b i) (i + size b i))
unfolding mend_from
mend_kept f b g i h t = rw (lt-ltb i (length b) h, t)

pub mend_free : (f : ℕ) (b : List ℕ) (g i : ℕ) → i < length b → found b i ≡ false → mend_from (suc f) b g i ≡ mend_from f b g (i + 1)
unfolding mend_from
mend_free f b g i h t = rw (lt-ltb i (length b) h, t)

-- a block that is found, as a piece
abbrev pub found_piece : List ℕ → ℕ → Piece
found_piece b i = blk true (whose b i) (content b i)

module _ (b : List ℕ) (i : ℕ) (h : found b i ≡ true) where
  stood : (block b i ≡ true) × (in_use b i ≡ true)
  stood = used_parts b i (found_used b i h)

  pub found_extent : extent (found_piece b i) ≡ size b i
  found_extent = let e = content_length b i (found_fits b i h) in rw e

  pub found_fine : Fine (found_piece b i)
  found_fine = rw stood.1 at (read b i stood.0).0

  pub found_cells : take (size b i) (drop i b) ≡ cells (found_piece b i)
  found_cells =
      let r = rw stood.1 at (read b i stood.0).1 in
      ap (take (size b i)) r ∙ take_at (cells (found_piece b i)) _ (size b i) (block_cells_length true (whose b i) (content b i) ∙ found_extent)

free_as_written : (n : ℕ) → AllAsWritten (free_pieces n)
free_as_written zero = tt
free_as_written (suc zero) = (tt, tt)
free_as_written (suc (suc zero)) = (tt, (tt, tt))
free_as_written (suc (suc (suc n))) = ((refl, ap noughts (sym (length-replicate {A = ℕ} n 0))), tt)

written_both : (xs ys : List Piece) → AllAsWritten xs → AllAsWritten ys → AllAsWritten (xs ++ ys)
written_both [] ys p q = q
written_both (x ∷ xs) ys p q = (p.0, written_both xs ys p.1 q)

-- what the pieces from g on are, where all from g to i is free
pub record Built (b : List ℕ) (g i : ℕ) (its : List Piece) : Type 0 where
  pub long : g + total its ≡ length b
  pub fine : AllFine its
  pub tidied : tidy (map kind its) ≡ true
  pub apart : nodup (owners its) ≡ true
  pub as_written : AllAsWritten its
  pub keeps : (j : ℕ) → i ≤ j → found b j ≡ true → (g + seek (used_by (whose b j)) its ≡ j) × (held_of (whose b j) its ≡ held (content b j))
  pub known : (w : ℕ) → has (used_by w) its ≡ true → (j : ℕ) × (g + seek (used_by w) its ≡ j) × (i ≤ j) × (found b j ≡ true) × (whose b j ≡ w)

built_past : (b : List ℕ) (g i : ℕ) → length b ≤ 100000 → g ≤ length b → length b ≤ i → Built b g i (free_pieces (length b - g))
built_past b g i s h l =
    let n = length b - g in
    let t = free_total n in
    record {
      long = omega arith;
      fine = free_fine n (omega arith);
      tidied = ap tidy (sym (append-nil (map kind (free_pieces n)))) ∙ free_tidy n [] refl refl;
      apart = ap nodup (free_owners n);
      as_written = free_as_written n;
      keeps = λ j k f. let w = found_within b j f in let z : ⊥ = omega arith in absurd z;
      known = λ w f. absurd (both_ways _ (free_none w n) f);
    }

built_free : (b : List ℕ) (g i : ℕ) (its : List Piece) → found b i ≡ false → Built b g (i + 1) its → Built b g i its
built_free b g i its e r = record {
  long = r.long;
  fine = r.fine;
  tidied = r.tidied;
  apart = r.apart;
  as_written = r.as_written;
  keeps = λ j k f. let ne : j ≡ i → ⊥ = λ d. both_ways _ e (rw d at f) in r.keeps j (omega arith) f;
  known = λ w f. let k = r.known w f in let l = k.2 in (k.0, k.1, omega arith, k.3, k.4);
}

has_skip : (p : Piece → Bool) (mid post : List Piece) → has p mid ≡ false → has p (mid ++ post) ≡ has p post
has_skip p [] post h = refl
has_skip p (x ∷ xs) post h = let n = or_parts (p x) (has p xs) h in rw n.0 (has_skip p xs post n.1)

-- a block that is found, behind what is free
module _ (b : List ℕ) (g i : ℕ) (xs : List Piece) (short : length b ≤ 100000) (le : g ≤ i) (at_i : found b i ≡ true) (r : Built b (i + size b i) (i + size b i) xs) where
  fits : i + size b i ≤ length b
  fits = found_fits b i at_i

  -- its owner is found nowhere else
  alone : (j : ℕ) → i < j → found b j ≡ true → eqb (whose b i) (whose b j) ≡ false
  alone j l f = ne_eqb _ _ (λ e. ((found_is_first b j).0 f).first i l (found_used b i at_i) e)

  owner_new : not (elem (whose b i) (owners xs)) ≡ true
  owner_new = elim (cases_Bool (has (used_by (whose b i)) xs)) [
    | inr n ↦ not_from_false _ (sym (has_is (whose b i) xs) ∙ n)
    | inl y ↦
        let k = r.known (whose b i) y in
        let s = size_is (long b i) in
        let l : i < k.0 = omega (arith, k.2) in
        absurd (both_ways _ (alone k.0 l k.3) (eq-eqb _ _ (sym k.4)))
  ]

  seek_is : (w : ℕ) → g + seek (used_by w) (free_pieces (i - g) ++ (found_piece b i ∷ xs)) ≡ i + cond (eqb (whose b i) w) 0 (size b i + seek (used_by w) xs)
  seek_is w =
      let e = found_extent b i at_i in
      let t = free_total (i - g) in
      let k = seek_skip (used_by w) (free_pieces (i - g)) (found_piece b i ∷ xs) (free_none w (i - g)) in
      let k' = rw e at k in
      omega arith

  keeps_at : (j : ℕ) → i ≤ j → found b j ≡ true →
      (g + seek (used_by (whose b j)) (free_pieces (i - g) ++ (found_piece b i ∷ xs)) ≡ j) × (held_of (whose b j) (free_pieces (i - g) ++ (found_piece b i ∷ xs)) ≡ held (content b j))
  keeps_at j l f =
      let s = seek_is (whose b j) in
      let h = held_skip (whose b j) (free_pieces (i - g)) (found_piece b i ∷ xs) (free_none (whose b j) (i - g)) in
      elim (cases_lt i j) [
        | inl m ↦
            let n = alone j m f in
            let a = apart b i j at_i f m in
            let k = r.keeps j a f in
            (s ∙ rw n (omega (arith, k.0)), h ∙ rw n k.1)
        | inr m ↦
            let e = same_place j i l m in
            let y : eqb (whose b i) (whose b j) ≡ true = eq-eqb _ _ (ap (whose b) (sym e)) in
            (s ∙ rw y (omega arith), h ∙ rw y (ap (λ p. held (content b p)) (sym e)))
      ]

  known_at : (w : ℕ) → has (used_by w) (free_pieces (i - g) ++ (found_piece b i ∷ xs)) ≡ true →
      (j : ℕ) × (g + seek (used_by w) (free_pieces (i - g) ++ (found_piece b i ∷ xs)) ≡ j) × (i ≤ j) × (found b j ≡ true) × (whose b j ≡ w)
  known_at w h =
      let s = seek_is w in
      let h' = sym (has_skip (used_by w) (free_pieces (i - g)) (found_piece b i ∷ xs) (free_none w (i - g))) ∙ h in
      elim (cases_Bool (eqb (whose b i) w)) [
        | inl y ↦ (i, s ∙ rw y (add-zero i), omega arith, at_i, eqb-true _ _ y)
        | inr n ↦
            let s' = rw n at s in
            let k = r.known w (rw n at h') in
            (k.0, omega (arith, k.1), omega (arith, k.2), k.3, k.4)
      ]

  pub built_kept : Built b g i (free_pieces (i - g) ++ (found_piece b i ∷ xs))
  built_kept =
      let n = i - g in
      let t = free_total n in
      let e = found_extent b i at_i in
      let a = total_append (free_pieces n) (found_piece b i ∷ xs) in
      let l = r.long in
      let f = fits in
      record {
        long = omega arith;
        fine = fine_both (free_pieces n) (found_piece b i ∷ xs) (free_fine n (omega arith)) (found_fine b i at_i, r.fine);
        tidied = ap tidy (map-append kind (free_pieces n) (found_piece b i ∷ xs)) ∙ free_tidy n (map kind (found_piece b i ∷ xs)) refl r.tidied;
        apart = ap nodup (owners_append (free_pieces n) (found_piece b i ∷ xs) ∙ ap (λ o. o ++ (whose b i ∷ owners xs)) (free_owners n)) ∙ and_from _ _ owner_new r.apart;
        as_written = written_both (free_pieces n) (found_piece b i ∷ xs) (free_as_written n) (tt, r.as_written);
        keeps = keeps_at;
        known = known_at;
      }

-- mending makes such pieces
pub record Makes (b : List ℕ) (g i : ℕ) (c : List ℕ) : Type 0 where
  pub its : List Piece
  pub cells_are : c ≡ flat its
  pub built : Built b g i its

pub makes : (f : ℕ) (b : List ℕ) (g i : ℕ) → length b ≤ 100000 → g ≤ i → i ≤ length b → length b ≤ i + f → Makes b g i (mend_from f b g i)
makes zero b g i s l m e = record { its = free_pieces (length b - g); cells_are = mend_past zero b g i (omega arith); built = built_past b g i s (omega arith) (omega arith) }
makes (suc f) b g i s l m e = elim (here b i) [
  | past h ↦ record { its = free_pieces (length b - g); cells_are = mend_past (suc f) b g i h; built = built_past b g i s (omega arith) h }
  | free h t ↦
      let r = makes f b g (i + 1) s (omega arith) (omega arith) (omega arith) in
      record { its = r.its; cells_are = mend_free f b g i h t ∙ r.cells_are; built = built_free b g i r.its t r.built }
  | kept h t ↦
      let n = size_is (long b i) in
      let r = makes f b (i + size b i) (i + size b i) s (omega arith) (found_fits b i t) (omega arith) in
      record {
        its = free_pieces (i - g) ++ (found_piece b i ∷ r.its);
        cells_are = mend_kept f b g i h t ∙ (λ j. free_cells (i - g) ++ (found_cells b i t j ++ r.cells_are j)) ∙ sym (flat_append (free_pieces (i - g)) (found_piece b i ∷ r.its));
        built = built_kept b g i r.its s l t r.built;
      }
]
