-- What a look along the shelf finds, by its pieces: somebody's block, what they hold, and room.
use Rattle.std.proofs.Common.{◌≡◌, ℕ, zero, suc, ◌+◌, ◌≤◌, Bool, true, false, cond, not, ◌&&◌, ◌||◌, eqb, ltb, leb, List, [], ◌∷◌, length, sym, refl, ap, ◌∙◌, inl, inr, add-zero, add_assoc, arith}
use Rattle.std.proofs.lemmas.Bool.Decides.{nat_tests}
use Rattle.std.proofs.lemmas.Bool.{cases_Bool, cases_lt, false≢true, ne_eqb, lt-ltb, le-ltb}
use Rattle.block.specs.Block.{content}
use Rattle.shelf.specs.Walk.{next, first_from, theirs, find, roomy, room, has_room, Held, none, held, holds}
use Rattle.shelf.specs.Pieces.{Piece, gap, blk, flat, extent, total, Fine, AllFine, used_by, row_of, held_of, owners, elem}
use Rattle.shelf.proofs.Along.{next_more, first_on, first_here, first_end}
use Rattle.shelf.proofs.Pieces.{At, at_start, at_more, at_next, inside, extent_pos, onto_next, stands, dead_here, live_here}

-- the offset of the first piece that passes, or the extent of all
abbrev pub seek : (Piece → Bool) → List Piece → ℕ
seek p [] = 0
seek p (x ∷ xs) = cond (p x) 0 (extent x + seek p xs)

abbrev pub has : (Piece → Bool) → List Piece → Bool
has p [] = false
has p (x ∷ xs) = p x || has p xs

-- a free piece with a row of n cells or more
abbrev pub free_for : ℕ → Piece → Bool
free_for n gap = false
free_for n (blk u w r) = not u && leb n (length r)

-- a test of places is a test of the pieces that begin there
abbrev pub Tests : List ℕ → (ℕ → Bool) → (Piece → Bool) → Type 0
Tests a t p = (i : ℕ) (x : Piece) (xs : List Piece) → Fine x → At a i (x ∷ xs) → t i ≡ p x

pub theirs_tests : (a : List ℕ) (w : ℕ) → Tests a (theirs a w) (used_by w)
theirs_tests a w i gap xs f h = rw (dead_here a i xs h)
theirs_tests a w i (blk u v r) xs f h = let s = stands a i u v r xs f h in rw (live_here a i u v r xs f h, s.in_use_is, s.whose_is)

pub roomy_tests : (a : List ℕ) (n : ℕ) → Tests a (roomy a n) (free_for n)
roomy_tests a n i gap xs f h = rw (dead_here a i xs h)
roomy_tests a n i (blk u v r) xs f h = let s = stands a i u v r xs f h in rw (live_here a i u v r xs f h, s.in_use_is, s.long_is)

pub first_is : (f : ℕ) (a : List ℕ) (t : ℕ → Bool) (p : Piece → Bool) (i : ℕ) (its : List Piece) → Tests a t p → AllFine its → At a i its → length a ≤ i + f → first_from t f a i ≡ i + seek p its
first_is f a t p i [] y q h l = first_end t a i (omega (arith, h.long)) f ∙ omega (arith, h.long)
first_is zero a t p i (x ∷ xs) y q h l = let e = inside a i x xs h in absurd (omega arith)
first_is (suc f) a t p i (x ∷ xs) y q h l =
    let e = inside a i x xs h in
    let m = next_more a i in
    let same = y i x xs q.0 h in
    let n = onto_next a i x xs q.0 h in
    let on = first_is f a t p (next a i) xs y q.1 (at_next a i x xs q.0 h) (omega arith) in
    elim (cases_Bool (p x)) [
      | inl b ↦ first_here t a i e (same ∙ b) f ∙ rw b (omega arith)
      | inr b ↦ first_on t a i e (same ∙ b) f ∙ rw b (omega arith)
    ]

pub seek_le : (p : Piece → Bool) (its : List Piece) → seek p its ≤ total its
seek_le p [] = omega arith
seek_le p (x ∷ xs) = let r = seek_le p xs in elim (p x) as (λ b. cond b 0 (extent x + seek p xs) ≤ extent x + total xs) [ true ↦ omega arith | false ↦ omega arith ]

-- it is at the end just where there is none
pub seek_end : (p : Piece → Bool) (its : List Piece) → eqb (seek p its) (total its) ≡ not (has p its)
seek_end p [] = refl
seek_end p (x ∷ xs) =
    let r = seek_end p xs in
    let s = extent_pos x in
    elim (p x) as (λ b. eqb (cond b 0 (extent x + seek p xs)) (extent x + total xs) ≡ not (b || has p xs)) [ true ↦ ne_eqb _ _ (omega arith) | false ↦ grind (arith, nat_tests) ]

pub seek_in : (p : Piece → Bool) (its : List Piece) → ltb (seek p its) (total its) ≡ has p its
seek_in p its = let e = seek_end p its in let l = seek_le p its in grind (arith, nat_tests)

-- what is held, from a place on
row_here : (a : List ℕ) (w i : ℕ) (x : Piece) (xs : List Piece) → Fine x → At a i (x ∷ xs) → used_by w x ≡ true → content a i ≡ row_of x
row_here a w i gap xs f h y = absurd (false≢true y)
row_here a w i (blk u v r) xs f h y = (stands a i u v r xs f h).content_is

abbrev shown : List ℕ → ℕ → Held
shown a n = cond (ltb n (length a)) (held (content a n)) none

pub holds_at : (a : List ℕ) (w i : ℕ) (its : List Piece) → AllFine its → At a i its → shown a (i + seek (used_by w) its) ≡ held_of w its
holds_at a w i [] q h = rw (le-ltb (i + 0) (length a) (omega (arith, h.long)))
holds_at a w i (x ∷ xs) q h = elim (cases_Bool (used_by w x)) [
  | inl y ↦ rw (y, add-zero i, lt-ltb i (length a) (inside a i x xs h)) (ap held (row_here a w i x xs q.0 h y))
  | inr y ↦ rw (y, ← add_assoc i (extent x) (seek (used_by w) xs)) (holds_at a w (i + extent x) xs q.1 (at_more a i x xs h))
]

-- the whole shelf
pub find_pieces : (w : ℕ) (its : List Piece) → AllFine its → find (flat its) w ≡ seek (used_by w) its
unfolding find
find_pieces w its q = first_is (length (flat its)) (flat its) _ (used_by w) 0 its (theirs_tests (flat its) w) q (at_start its) (omega arith) ∙ omega arith

pub room_pieces : (n : ℕ) (its : List Piece) → AllFine its → room (flat its) n ≡ seek (free_for n) its
unfolding room
room_pieces n its q = first_is (length (flat its)) (flat its) _ (free_for n) 0 its (roomy_tests (flat its) n) q (at_start its) (omega arith) ∙ omega arith

pub holds_pieces : (w : ℕ) (its : List Piece) → AllFine its → holds (flat its) w ≡ held_of w its
unfolding holds
holds_pieces w its q = ap (shown (flat its)) (find_pieces w its q ∙ omega arith) ∙ holds_at (flat its) w 0 its q (at_start its)

-- somebody has a block just where they are an owner
pub has_is : (w : ℕ) (its : List Piece) → has (used_by w) its ≡ elem w (owners its)
has_is w [] = refl
has_is w (gap ∷ xs) = has_is w xs
has_is w (blk true v r ∷ xs) = ap (λ b. eqb v w || b) (has_is w xs)
has_is w (blk false v r ∷ xs) = has_is w xs

-- there is room just where a place for it is found
pub has_room_is : (f : ℕ) (a : List ℕ) (n i : ℕ) → has_room f a n i ≡ ltb (first_from (roomy a n) f a i) (length a)
unfolding has_room first_from
has_room_is zero a n i = sym (le-ltb _ _ (omega arith))
has_room_is (suc f) a n i =
    let r = has_room_is f a n (next a i) in
    elim (cases_Bool (ltb i (length a))) [
      | inr l ↦ rw (l, le-ltb (length a) (length a) (omega arith))
      | inl l ↦ elim (cases_Bool (roomy a n i)) [ inl b ↦ rw (l, b, l) | inr b ↦ rw (l, b) r ]
    ]

-- a look never answers past the end
pub first_bound : (t : ℕ → Bool) (f : ℕ) (a : List ℕ) (i : ℕ) → first_from t f a i ≤ length a
unfolding first_from
first_bound t zero a i = omega arith
first_bound t (suc f) a i = elim (cases_lt i (length a)) [
  | inr l ↦ rw (le-ltb i (length a) l) (omega arith)
  | inl l ↦ rw (lt-ltb i (length a) l) (elim (cases_Bool (t i)) [ inl b ↦ rw b (omega arith) | inr b ↦ rw b (first_bound t f a (next a i)) ])
]

pub find_bound : (a : List ℕ) (w : ℕ) → find a w ≤ length a
unfolding find
find_bound a w = first_bound (theirs a w) (length a) a 0
