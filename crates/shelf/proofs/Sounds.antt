-- A shelf is sound just where it is a row of sound pieces.
use Rattle.std.proofs.Common.{◌≡◌, ℕ, zero, suc, ◌+◌, ◌≤◌, Bool, true, false, cond, not, ◌&&◌, ◌||◌, eqb, List, [], ◌∷◌, ◌++◌, map, length, sym, refl, ap, ◌∙◌, arith}
use Rattle.std.proofs.lemmas.Bool.Decides.{nat_tests}
use Rattle.std.proofs.lemmas.Bool.{and_parts, and_from, ltb-true, le-leb}
use Rattle.block.specs.Cell.{dead, limit, first_cell}
use Rattle.block.specs.Block.{in_use, whose, sum_of, all_small, block_cells}
use Rattle.block.proofs.Rows.{sum_small}
use Rattle.shelf.specs.Walk.{is_dead, next, first_from, theirs}
use Rattle.shelf.specs.Sound.{idle, tidy_at, once_at, all_from, all_cells, sound}
use Rattle.shelf.specs.Pieces.{Piece, gap, blk, cells, flat, Fine, AllFine, used_by, kind, idle_first, gap_ok, tidy, owners, elem, nodup, SoundPieces}
use Rattle.shelf.specs.Laws.{ByPieces}
use Rattle.shelf.proofs.Along.{next_more, all_on, all_end}
use Rattle.shelf.proofs.Pieces.{At, at_start, at_more, at_next, inside, stands, dead_here, live_here, pieces_good, good_pieces}
use Rattle.shelf.proofs.Looks.{first_is, theirs_tests, seek, seek_end, has_is}

-- a test at every place of the walk is a test of the pieces and those behind them
pub all_is : (a : List ℕ) (t : ℕ → Bool) (P : List Piece → Bool) → P [] ≡ true → ((i : ℕ) (x : Piece) (xs : List Piece) → AllFine (x ∷ xs) → At a i (x ∷ xs) → (t i && P xs) ≡ P (x ∷ xs)) →
    (f : ℕ) (i : ℕ) (its : List Piece) → AllFine its → At a i its → length a ≤ i + f → all_from t f a i ≡ P its
all_is a t P none here f i [] q h l = all_end t a i (omega (arith, h.long)) f ∙ sym none
all_is a t P none here zero i (x ∷ xs) q h l = let e = inside a i x xs h in absurd (omega arith)
all_is a t P none here (suc f) i (x ∷ xs) q h l =
    let e = inside a i x xs h in
    let m = next_more a i in
    all_on t a i e f ∙ ap (λ b. t i && b) (all_is a t P none here f (next a i) xs q.1 (at_next a i x xs q.0 h) (omega arith)) ∙ here i x xs q h

-- tidiness, by the kinds
pub idle_is : (a : List ℕ) (i : ℕ) (its : List Piece) → AllFine its → At a i its → idle a i ≡ idle_first (map kind its)
idle_is a i [] q h = let l = h.long in grind (arith, nat_tests)
idle_is a i (gap ∷ xs) q h = let l = inside a i gap xs h in let g = dead_here a i xs h in grind (arith, nat_tests)
idle_is a i (blk true w r ∷ xs) q h = let d = live_here a i true w r xs q.0 h in let s = (stands a i true w r xs q.0 h).in_use_is in grind (arith, nat_tests)
idle_is a i (blk false w r ∷ xs) q h =
    let l = inside a i (blk false w r) xs h in
    let s = (stands a i false w r xs q.0 h).in_use_is in
    grind (arith, nat_tests)

gap_ok_is : (a : List ℕ) (i : ℕ) (xs : List Piece) → AllFine xs → At a (i + 1) xs → (not (idle a (i + 1)) || (is_dead a (i + 1) && not (idle a (i + 2)))) ≡ gap_ok (map kind xs)
gap_ok_is a i [] q h = let d = idle_is a (i + 1) [] q h in rw d
gap_ok_is a i (gap ∷ xs) q h =
    let e : i + 1 + 1 ≡ i + 2 = omega arith in
    let on : idle a (i + 2) ≡ idle_first (map kind xs) = ap (idle a) (sym e) ∙ idle_is a (i + 1 + 1) xs q.1 (at_more a (i + 1) gap xs h) in
    (λ j. not (idle_is a (i + 1) (gap ∷ xs) q h j) || (dead_here a (i + 1) xs h j && not (on j)))
gap_ok_is a i (blk true w r ∷ xs) q h = ap (λ b. not b || (is_dead a (i + 1) && not (idle a (i + 2)))) (idle_is a (i + 1) (blk true w r ∷ xs) q h)
gap_ok_is a i (blk false w r ∷ xs) q h = (λ j. not (idle_is a (i + 1) (blk false w r ∷ xs) q h j) || (live_here a (i + 1) false w r xs q.0 h j && not (idle a (i + 2))))

tidy_here : (a : List ℕ) (i : ℕ) (x : Piece) (xs : List Piece) → AllFine (x ∷ xs) → At a i (x ∷ xs) → (tidy_at a i && tidy (map kind xs)) ≡ tidy (map kind (x ∷ xs))
tidy_here a i gap xs q h =
    (λ j. cond (dead_here a i xs h j) (gap_ok_is a i xs q.1 (at_more a i gap xs h) j) (in_use a i || not (idle a (next a i))) && tidy (map kind xs))
tidy_here a i (blk true w r) xs q h = (λ j. cond (live_here a i true w r xs q.0 h j) (not (idle a (i + 1)) || (is_dead a (i + 1) && not (idle a (i + 2)))) ((stands a i true w r xs q.0 h).in_use_is j || not (idle a (next a i))) && tidy (map kind xs))
tidy_here a i (blk false w r) xs q h = (λ j. cond (live_here a i false w r xs q.0 h j) (not (idle a (i + 1)) || (is_dead a (i + 1) && not (idle a (i + 2)))) ((stands a i false w r xs q.0 h).in_use_is j || not (idle_is a (next a i) xs q.1 (at_next a i (blk false w r) xs q.0 h) j)) && tidy (map kind xs))

-- nobody has two, by the owners
same_eqb : (n s t : ℕ) → eqb (n + s) (n + t) ≡ eqb s t
same_eqb n s t = grind (arith, nat_tests)

once_here : (a : List ℕ) (i : ℕ) (x : Piece) (xs : List Piece) → AllFine (x ∷ xs) → At a i (x ∷ xs) → (once_at a i && nodup (owners xs)) ≡ nodup (owners (x ∷ xs))
once_here a i gap xs q h = rw (dead_here a i xs h)
once_here a i (blk false w r) xs q h = rw (live_here a i false w r xs q.0 h, (stands a i false w r xs q.0 h).in_use_is)
once_here a i (blk true w r) xs q h =
    let s = stands a i true w r xs q.0 h in
    let on = at_next a i (blk true w r) xs q.0 h in
    let found : first_from (theirs a w) (length a) a (next a i) ≡ next a i + seek (used_by w) xs = first_is (length a) a _ (used_by w) (next a i) xs (theirs_tests a w) q.1 on (omega arith) in
    let far : eqb (first_from (theirs a (whose a i)) (length a) a (next a i)) (length a) ≡ not (elem w (owners xs)) =
    ap (λ v. eqb (first_from (theirs a v) (length a) a (next a i)) (length a)) s.whose_is ∙ (λ j. eqb (found j) (on.long j)) ∙ same_eqb (next a i) _ _ ∙ seek_end (used_by w) xs ∙ ap not (has_is w xs) in
    (λ j. (live_here a i true w r xs q.0 h j || (not (s.in_use_is j) || far j)) && nodup (owners xs))

-- all cells are cells
cells_append : (xs ys : List ℕ) → all_cells xs ≡ true → all_cells ys ≡ true → all_cells (xs ++ ys) ≡ true
unfolding all_cells
cells_append [] ys p q = q
cells_append (x ∷ xs) ys p q = let h = and_parts _ _ p in and_from _ _ h.0 (cells_append xs ys h.1 q)

small_cells : (xs : List ℕ) → all_small xs ≡ true → all_cells xs ≡ true
unfolding all_cells all_small
small_cells [] p = refl
small_cells (x ∷ xs) p = let h = and_parts _ _ p in let l = ltb-true x limit h.0 in and_from _ _ (le-leb x dead (omega arith)) (small_cells xs h.1)

piece_cells : (x : Piece) → Fine x → all_cells (cells x) ≡ true
unfolding all_cells block_cells
piece_cells gap f = refl
piece_cells (blk u w r) f =
    let first : first_cell (length r) u ≤ dead = omega (arith, f.live) in
    let own : w ≤ dead = omega (arith, f.owner) in
    let s = sum_small (first_cell (length r) u) w r in
    let sum : sum_of (first_cell (length r) u) w r ≤ dead = omega arith in
    and_from _ _ (le-leb _ _ first) (and_from _ _ (le-leb _ _ own) (and_from _ _ (le-leb _ _ sum) (small_cells r f.small)))

pub flat_cells : (its : List Piece) → AllFine its → all_cells (flat its) ≡ true
unfolding all_cells
flat_cells [] q = refl
flat_cells (x ∷ xs) q = cells_append (cells x) (flat xs) (piece_cells x q.0) (flat_cells xs q.1)

-- both ways
pub tidy_is : (a : List ℕ) (its : List Piece) → AllFine its → At a 0 its → all_from (tidy_at a) (length a) a 0 ≡ tidy (map kind its)
tidy_is a its q h = all_is a (tidy_at a) (λ xs. tidy (map kind xs)) refl (tidy_here a) (length a) 0 its q h (omega arith)

pub once_is : (a : List ℕ) (its : List Piece) → AllFine its → At a 0 its → all_from (once_at a) (length a) a 0 ≡ nodup (owners its)
once_is a its q h = all_is a (once_at a) (λ xs. nodup (owners xs)) refl (once_here a) (length a) 0 its q h (omega arith)

pub pieces_sound : (its : List Piece) → SoundPieces its → sound (flat its) ≡ true
unfolding sound
pieces_sound its s =
    let a = flat its in
    let h = at_start its in
    and_from _ _ (flat_cells its s.fine) (and_from _ _ (pieces_good (length a) a 0 its s.fine h (omega arith))
    (and_from _ _ (tidy_is a its s.fine h ∙ s.tidied) (once_is a its s.fine h ∙ s.apart)))

pub sound_pieces : (a : List ℕ) → sound a ≡ true → (its : List Piece) × (a ≡ flat its) × SoundPieces its
unfolding sound
sound_pieces a h =
    let p = and_parts _ _ (and_parts _ _ h).1 in
    let t = and_parts _ _ p.1 in
    let r = good_pieces (length a) a 0 p.0 in (
      r.its,
      r.here.rest,
      record {
        fine = r.fine;
        tidied = sym (tidy_is a r.its r.fine r.here) ∙ t.0;
        apart = sym (once_is a r.its r.fine r.here) ∙ t.1;
      },
    )

pub by_pieces : ByPieces
by_pieces = record { to = sound_pieces; from = pieces_sound }
