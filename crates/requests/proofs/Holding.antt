-- Somebody's block on a sound shelf, with the pieces before and behind it.
use Rattle.std.proofs.Common.{◌≡◌, ℕ, ◌+◌, ◌<◌, ◌≤◌, true, false, cond, eqb, ltb, leb, List, [], ◌∷◌, ◌++◌, length, take, drop, Some, sym, refl, ap, ◌∙◌, subst, inl, inr, arith}
use Rattle.std.proofs.lemmas.List.{take_at}
use Rattle.std.proofs.lemmas.Option.{same_Some, none-some}
use Rattle.std.proofs.lemmas.Bool.{and_parts, cases_lt, false≢true, eqb-true, not-false, ne_eqb, lt-ltb, le-ltb, le-leb}
use Rattle.block.specs.Block.{long, size_for, size, content, block_cells}
use Rattle.block.specs.Laws.{Stands}
use Rattle.block.proofs.Blocks.{size_pos}
use Rattle.block.proofs.Written.{block_cells_length}
use Rattle.shelf.specs.Walk.{find, on_shelf, none, held, holds}
use Rattle.shelf.specs.Sound.{sound}
use Rattle.shelf.specs.Pieces.{Piece, gap, blk, flat, total, used_by, row_of, SoundPieces}
use Rattle.shelf.proofs.Pieces.{length_flat, At, stands}
use Rattle.shelf.proofs.Looks.{seek, has, seek_end, find_pieces}
use Rattle.shelf.proofs.Sounds.{sound_pieces}
use Rattle.requests.specs.Entry.{is_held, usable, within, viewed, rows}
use Rattle.requests.proofs.Edits.{total_append, fine_right, at_middle, split}

pub is_held_is : (a : List ℕ) (w : ℕ) → is_held (holds a w) ≡ ltb (find a w) (length a)
unfolding holds
is_held_is a w = elim (ltb (find a w) (length a)) as (λ b. is_held (cond b (held (content a (find a w))) none) ≡ b) [ true ↦ refl | false ↦ refl ]

pub holds_is : (a : List ℕ) (w : ℕ) → find a w < length a → holds a w ≡ held (content a (find a w))
unfolding holds
holds_is a w l = rw (lt-ltb (find a w) (length a) l)

pub holds_none : (a : List ℕ) (w : ℕ) → length a ≤ find a w → holds a w ≡ none
unfolding holds
holds_none a w l = rw (le-ltb (find a w) (length a) l)

-- what a look that hands out a place or none tells
pub place_is : (a : List ℕ) (p q : ℕ) → Some p ≡ on_shelf a q → (p ≡ q) × (q < length a)
place_is a p q h = elim (cases_lt q (length a)) [
  | inl l ↦ (same_Some p q (rw (lt-ltb q (length a) l) at h), l)
  | inr l ↦ absurd (none-some p (sym (rw (le-ltb q (length a) l) at h)))
]

pub held_here : (a : List ℕ) (w : ℕ) → find a w < length a → is_held (holds a w) ≡ true
held_here a w l = is_held_is a w ∙ lt-ltb _ _ l

pub held_not : (a : List ℕ) (w : ℕ) → length a ≤ find a w → is_held (holds a w) ≡ false
held_not a w l = is_held_is a w ∙ le-ltb _ _ l

-- the block of w's, with the pieces before it and behind it
pub record Mine (a : List ℕ) (w : ℕ) : Type 0 where
  pub pre : List Piece
  pub row : List ℕ
  pub post : List Piece
  pub whole : a ≡ flat (pre ++ (blk true w row ∷ post))
  pub good : SoundPieces (pre ++ (blk true w row ∷ post))
  pub first : has (used_by w) pre ≡ false
  pub place : find a w ≡ total pre
  pub here : Stands a (find a w) true w row
  pub there : At a (find a w) (blk true w row ∷ post)
  pub fits : find a w + size_for (length row) ≤ length a

used_is : (w : ℕ) (x : Piece) → used_by w x ≡ true → x ≡ blk true w (row_of x)
used_is w gap e = absurd (false≢true e)
used_is w (blk false v r) e = absurd (false≢true e)
used_is w (blk true v r) e = ap (λ n. blk true n r) (eqb-true v w e)

mine_of : (w : ℕ) (pre : List Piece) (r : List ℕ) (post : List Piece) → SoundPieces (pre ++ (blk true w r ∷ post)) → has (used_by w) pre ≡ false →
    find (flat (pre ++ (blk true w r ∷ post))) w ≡ total pre → Mine (flat (pre ++ (blk true w r ∷ post))) w
mine_of w pre r post s f p =
    let at = at_middle pre (blk true w r ∷ post) in
    record {
      pre = pre;
      row = r;
      post = post;
      whole = refl;
      good = s;
      first = f;
      place = p;
      here = rw p (stands _ (total pre) true w r post (fine_right pre _ s.fine).0 at);
      there = rw p at;
      fits = omega (arith, length_flat (pre ++ (blk true w r ∷ post)), total_append pre (blk true w r ∷ post));
    }

mine_in : (w : ℕ) (its : List Piece) → SoundPieces its → has (used_by w) its ≡ true → Mine (flat its) w
mine_in w its s h =
    let t = split (used_by w) its h in
    let e : its ≡ t.pre ++ (blk true w (row_of t.it) ∷ t.post) = t.whole ∙ ap (λ x. t.pre ++ (x ∷ t.post)) (used_is w t.it t.passes) in
    let p : find (flat its) w ≡ total t.pre = find_pieces w its s.fine ∙ t.place in
    subst (λ l. Mine (flat l) w) (sym e) (mine_of w t.pre (row_of t.it) t.post (subst SoundPieces e s) t.first (subst (λ l. find (flat l) w ≡ total t.pre) e p))

pub mine : (a : List ℕ) (w : ℕ) → sound a ≡ true → find a w < length a → Mine a w
mine a w s l =
    let t = sound_pieces a s in
    let its = t.0 in
    let e : find (flat its) w ≡ seek (used_by w) its = find_pieces w its t.2.fine in
    let l' : find (flat its) w < length (flat its) = subst (λ b. find b w < length b) t.1 l in
    let n : eqb (seek (used_by w) its) (total its) ≡ false = ne_eqb _ _ (λ z. let f = length_flat its in omega arith) in
    let h : has (used_by w) its ≡ true = not-false _ (sym (seek_end (used_by w) its) ∙ n) in
    subst (λ b. Mine b w) (sym t.1) (mine_in w its t.2 h)

-- its size, its cells and its row
module _ (a : List ℕ) (w : ℕ) (m : Mine a w) where
  pub size_mine : size a (find a w) ≡ size_for (length m.row)
  size_mine = ap size_for m.here.long_is

  pub part_mine : take (size a (find a w)) (drop (find a w) a) ≡ block_cells true w m.row
  part_mine =
      (λ j. take (size_mine j) (m.there.rest j)) ∙ take_at (block_cells true w m.row) (flat m.post) (size_for (length m.row)) (block_cells_length true w m.row)

  pub inside_mine : find a w < length a
  inside_mine = let p = size_pos (length m.row) in omega (arith, m.fits)

  pub within_mine : (k : ℕ) → within (holds a w) k ≡ ltb k (length m.row)
  within_mine k = ap (λ h. within h k) (holds_is a w inside_mine ∙ ap held m.here.content_is)

-- a cell is of what somebody holds just where it is before the row's end
pub within_here : (a : List ℕ) (w k p l : ℕ) → usable a ≡ true → p ≡ find a w → find a w < length a → l ≡ long a p → within (holds a w) k ≡ ltb k l
within_here a w k p l u e i h =
    let m = mine a w (and_parts (sound a) _ u).0 i in
    within_mine a w m k ∙ ap (ltb k) (sym (h ∙ ap (long a) e ∙ m.here.long_is))

-- the row of somebody's block ends on the shelf, and is what they hold
pub row_held : (a : List ℕ) (w p : ℕ) (r : List ℕ) → true ≡ usable a → p ≡ find a w → find a w < length a → r ≡ cond (leb (p + size a p) (length a)) (content a p) [] → holds a w ≡ held r
row_held a w p r u e l h =
    let m = mine a w (and_parts (sound a) _ (sym u)).0 l in
    let s = size_mine a w m in
    let f : find a w + size a (find a w) ≤ length a = omega (arith, m.fits) in
    let q = rw (e, le-leb (find a w + size a (find a w)) (length a) f) at h in
    holds_is a w l ∙ ap held (sym q)

pub row_here : (a : List ℕ) (w p : ℕ) (r : List ℕ) → true ≡ usable a → p ≡ find a w → find a w < length a → r ≡ cond (leb (p + size a p) (length a)) (content a p) [] → r ≡ rows (viewed a w)
row_here a w p r u e l h = sym (rw (← u) (ap rows (row_held a w p r u e l h)))
