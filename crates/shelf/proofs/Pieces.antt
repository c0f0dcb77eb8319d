-- A shelf from a place on as a list of pieces: what stands where a piece begins, and that good shelves are just these.
use Rattle.std.proofs.Common.{◌≡◌, ℕ, zero, suc, ◌+◌, ◌<◌, ◌≤◌, Bool, true, false, List, [], ◌∷◌, ◌++◌, length, drop, sym, refl, ap, ◌∙◌, subst, ⊎_elim, arith, length-append}
use Rattle.std.proofs.lemmas.List.{drop_more, drop_all, drop-drop, drop_at}
use Rattle.std.proofs.lemmas.Bool.{and_parts, or_cases, eqb-true, ltb-true, eq-eqb, ne_eqb}
use Rattle.block.specs.Cell.{dead}
use Rattle.block.specs.Block.{at, in_use, whose, size_for, content, block}
use Rattle.block.specs.Laws.{Stands}
use Rattle.block.proofs.Blocks.{parts, size_pos, content_length}
use Rattle.block.proofs.Written.{block_cells_length, first_is, written, read}
use Rattle.shelf.specs.Walk.{is_dead, next}
use Rattle.shelf.specs.Sound.{good_at, good_from}
use Rattle.shelf.specs.Pieces.{Piece, gap, blk, cells, flat, extent, total, Fine, AllFine}
use Rattle.shelf.proofs.Along.{next_dead, next_live, next_more, good_on, good_end}

pub length_cells : (x : Piece) → length (cells x) ≡ extent x
length_cells gap = refl
length_cells (blk u w r) = block_cells_length u w r

pub length_flat : (xs : List Piece) → length (flat xs) ≡ total xs
length_flat [] = refl
length_flat (x ∷ xs) = length-append (cells x) (flat xs) ∙ (λ i. length_cells x i + length_flat xs i)

pub extent_pos : (x : Piece) → 1 ≤ extent x
extent_pos gap = omega arith
extent_pos (blk u w r) = size_pos (length r)

-- from the place i on a shelf has these pieces, up to its end
pub record At (a : List ℕ) (i : ℕ) (its : List Piece) : Type 0 where
  pub rest : drop i a ≡ flat its
  pub long : length a ≡ i + total its

pub at_start : (its : List Piece) → At (flat its) 0 its
at_start its = record { rest = refl; long = length_flat its ∙ omega arith }

pub at_more : (a : List ℕ) (i : ℕ) (x : Piece) (xs : List Piece) → At a i (x ∷ xs) → At a (i + extent x) xs
at_more a i x xs h = record {
  rest = sym (drop-drop (extent x) i a) ∙ ap (drop (extent x)) h.rest ∙ drop_at (cells x) (flat xs) (extent x) (length_cells x);
  long = h.long ∙ omega arith;
}

pub inside : (a : List ℕ) (i : ℕ) (x : Piece) (xs : List Piece) → At a i (x ∷ xs) → i < length a
inside a i x xs h = let p = extent_pos x in omega (arith, h.long)

pub at_end : (a : List ℕ) (i : ℕ) → At a i [] → length a ≡ i
at_end a i h = omega (arith, h.long)

-- no block's first cell is a dead cell
pub live : (a : List ℕ) (i : ℕ) → block a i ≡ true → is_dead a i ≡ false
live a i b = let l = (parts a i b).live in ne_eqb _ _ (λ e. omega arith)

-- a block among the pieces stands where it begins
pub stands : (a : List ℕ) (i : ℕ) (u : Bool) (w : ℕ) (r : List ℕ) (xs : List Piece) → Fine (blk u w r) → At a i (blk u w r ∷ xs) → Stands a i u w r
stands a i u w r xs f h = let l = inside a i (blk u w r) xs h in written a i u w r (flat xs) f (omega arith) h.rest

pub dead_here : (a : List ℕ) (i : ℕ) (xs : List Piece) → At a i (gap ∷ xs) → is_dead a i ≡ true
dead_here a i xs h = eq-eqb _ _ (first_is a i (dead ∷ flat xs) h.rest)

pub live_here : (a : List ℕ) (i : ℕ) (u : Bool) (w : ℕ) (r : List ℕ) (xs : List Piece) → Fine (blk u w r) → At a i (blk u w r ∷ xs) → is_dead a i ≡ false
live_here a i u w r xs f h = live a i (stands a i u w r xs f h).stands

pub onto_next : (a : List ℕ) (i : ℕ) (x : Piece) (xs : List Piece) → Fine x → At a i (x ∷ xs) → next a i ≡ i + extent x
onto_next a i gap xs f h = next_dead a i (dead_here a i xs h)
onto_next a i (blk u w r) xs f h = next_live a i (live_here a i u w r xs f h) ∙ ap (λ n. i + size_for n) (stands a i u w r xs f h).long_is

pub at_next : (a : List ℕ) (i : ℕ) (x : Piece) (xs : List Piece) → Fine x → At a i (x ∷ xs) → At a (next a i) xs
at_next a i x xs f h = subst (λ n. At a n xs) (sym (onto_next a i x xs f h)) (at_more a i x xs h)

-- a row of pieces is good
good_here : (a : List ℕ) (i : ℕ) (x : Piece) (xs : List Piece) → Fine x → At a i (x ∷ xs) → good_at a i ≡ true
good_here a i gap xs f h = rw (dead_here a i xs h)
good_here a i (blk u w r) xs f h = rw (live_here a i u w r xs f h) (stands a i u w r xs f h).stands

pub pieces_good : (f : ℕ) (a : List ℕ) (i : ℕ) (its : List Piece) → AllFine its → At a i its → length a ≤ i + f → good_from f a i ≡ true
pieces_good f a i [] q h l = let e = at_end a i h in good_end a i (omega arith) f ∙ eq-eqb i (length a) (omega arith)
pieces_good zero a i (x ∷ xs) q h l = let e = inside a i x xs h in absurd (omega arith)
pieces_good (suc f) a i (x ∷ xs) q h l =
    let e = inside a i x xs h in
    let m = next_more a i in
    good_on a i e (good_here a i x xs q.0 h) f ∙ pieces_good f a (next a i) xs q.1 (at_next a i x xs q.0 h) (omega arith)

-- and what is good is a row of pieces
pub record Read (a : List ℕ) (i : ℕ) : Type 0 where
  pub its : List Piece
  pub fine : AllFine its
  pub here : At a i its

none_left : (a : List ℕ) (i : ℕ) → i ≡ length a → Read a i
none_left a i e = record { its = []; fine = tt; here = record { rest = drop_all i a (omega arith); long = omega arith } }

one_more : (a : List ℕ) (i : ℕ) (x : Piece) → Fine x → next a i ≡ i + extent x → drop i a ≡ cells x ++ drop (next a i) a → Read a (next a i) → Read a i
one_more a i x f n e r = record {
  its = x ∷ r.its;
  fine = (f, r.fine);
  here = record { rest = e ∙ ap (λ l. cells x ++ l) r.here.rest; long = r.here.long ∙ omega arith };
}

gap_more : (a : List ℕ) (i : ℕ) → i < length a → is_dead a i ≡ true → Read a (next a i) → Read a i
gap_more a i l d r =
    let n = next_dead a i d in
    let e : at a i ≡ dead = eqb-true _ _ d in
    one_more a i gap tt n (drop_more a i 0 l ∙ (λ j. e j ∷ drop (sym n j) a)) r

block_more : (a : List ℕ) (i : ℕ) → block a i ≡ true → Read a (next a i) → Read a i
block_more a i b r =
    let n = next_live a i (live a i b) in
    let p = read a i b in
    let e = content_length a i (parts a i b).fits in
    one_more a i (blk (in_use a i) (whose a i) (content a i)) p.0 (rw e n) (rw n p.1) r

pub good_pieces : (f : ℕ) (a : List ℕ) (i : ℕ) → good_from f a i ≡ true → Read a i
unfolding good_from
good_pieces zero a i g = none_left a i (eqb-true _ _ g)
good_pieces (suc f) a i g = ⊎_elim
    (λ e. none_left a i (eqb-true _ _ e))
    (λ s.
    let p = and_parts _ _ s in
    let q = and_parts _ _ p.1 in
    let on = good_pieces f a (next a i) q.1 in
    ⊎_elim (λ d. gap_more a i (ltb-true _ _ p.0) d on) (λ b. block_more a i b on) (or_cases _ _ q.0))
    (or_cases _ _ g)
