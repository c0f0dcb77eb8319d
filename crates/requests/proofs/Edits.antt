-- An edit of a shelf: some pieces in the middle replaced by others of the same extent.
use Rattle.std.proofs.Common.{◌≡◌, ℕ, ◌+◌, Bool, true, false, cond, List, [], ◌∷◌, ◌++◌, map, take, drop, sym, refl, ap, ◌∙◌, inl, inr, append_assoc, add-zero, arith}
use borrow.Rule.Slice.PartMut.{put_mid}
use Rattle.std.proofs.lemmas.List.{take_at, drop_at}
use Rattle.std.proofs.lemmas.Bool.{cases_Bool, false≢true, or_parts, eq-eqb, ne_eqb}
use Rattle.shelf.specs.Walk.{find, holds, held}
use Rattle.shelf.specs.Pieces.{Piece, gap, blk, cells, flat, extent, total, AllFine, used_by, row_of, held_of, kind, tidy, owners, nodup, SoundPieces}
use Rattle.shelf.proofs.Pieces.{length_flat, At}
use Rattle.shelf.proofs.Looks.{seek, has, find_pieces, holds_pieces}
use Rattle.requests.specs.Entry.{Others}

pub flat_append : (xs ys : List Piece) → flat (xs ++ ys) ≡ flat xs ++ flat ys
flat_append [] ys = refl
flat_append (x ∷ xs) ys = ap (λ l. cells x ++ l) (flat_append xs ys) ∙ sym (append_assoc (cells x) (flat xs) (flat ys))

pub total_append : (xs ys : List Piece) → total (xs ++ ys) ≡ total xs + total ys
total_append [] ys = omega arith
total_append (x ∷ xs) ys = let r = total_append xs ys in omega arith

pub owners_append : (xs ys : List Piece) → owners (xs ++ ys) ≡ owners xs ++ owners ys
owners_append [] ys = refl
owners_append (gap ∷ xs) ys = owners_append xs ys
owners_append (blk true w r ∷ xs) ys = ap (λ l. w ∷ l) (owners_append xs ys)
owners_append (blk false w r ∷ xs) ys = owners_append xs ys

pub fine_left : (xs ys : List Piece) → AllFine (xs ++ ys) → AllFine xs
fine_left [] ys q = tt
fine_left (x ∷ xs) ys q = (q.0, fine_left xs ys q.1)

pub fine_right : (xs ys : List Piece) → AllFine (xs ++ ys) → AllFine ys
fine_right [] ys q = q
fine_right (x ∷ xs) ys q = fine_right xs ys q.1

pub fine_both : (xs ys : List Piece) → AllFine xs → AllFine ys → AllFine (xs ++ ys)
fine_both [] ys p q = q
fine_both (x ∷ xs) ys p q = (p.0, fine_both xs ys p.1 q)

pub at_middle : (pre xs : List Piece) → At (flat (pre ++ xs)) (total pre) xs
at_middle pre xs = record {
  rest = ap (drop (total pre)) (flat_append pre xs) ∙ drop_at (flat pre) (flat xs) (total pre) (length_flat pre);
  long = length_flat (pre ++ xs) ∙ total_append pre xs;
}

-- the first piece that passes, with what stands before and behind it
pub record Split (p : Piece → Bool) (its : List Piece) : Type 0 where
  pub pre : List Piece
  pub it : Piece
  pub post : List Piece
  pub whole : its ≡ pre ++ (it ∷ post)
  pub passes : p it ≡ true
  pub first : has p pre ≡ false
  pub place : seek p its ≡ total pre

pub split : (p : Piece → Bool) (its : List Piece) → has p its ≡ true → Split p its
split p [] h = absurd (false≢true h)
split p (x ∷ xs) h = elim (cases_Bool (p x)) [
  | inl y ↦ record { pre = []; it = x; post = xs; whole = refl; passes = y; first = refl; place = rw y }
  | inr n ↦
      let s = split p xs (rw n at h) in
      record {
        pre = x ∷ s.pre;
        it = s.it;
        post = s.post;
        whole = ap (λ l. x ∷ l) s.whole;
        passes = s.passes;
        first = rw n s.first;
        place = rw n (ap (λ m. extent x + m) s.place);
      }
]

-- looks pass over what has none
pub seek_skip : (p : Piece → Bool) (mid post : List Piece) → has p mid ≡ false → seek p (mid ++ post) ≡ total mid + seek p post
seek_skip p [] post h = omega arith
seek_skip p (x ∷ xs) post h = let n = or_parts (p x) (has p xs) h in let r = seek_skip p xs post n.1 in rw n.0 (omega arith)

pub held_skip : (w : ℕ) (mid post : List Piece) → has (used_by w) mid ≡ false → held_of w (mid ++ post) ≡ held_of w post
held_skip w [] post h = refl
held_skip w (x ∷ xs) post h = let n = or_parts (used_by w x) (has (used_by w) xs) h in rw n.0 (held_skip w xs post n.1)

-- and what stands behind changes only what wasn't found before
seek_under : (p : Piece → Bool) (pre xs ys : List Piece) → seek p xs ≡ seek p ys → seek p (pre ++ xs) ≡ seek p (pre ++ ys)
seek_under p [] xs ys e = e
seek_under p (x ∷ pre) xs ys e = ap (λ n. cond (p x) 0 (extent x + n)) (seek_under p pre xs ys e)

held_under : (w : ℕ) (pre xs ys : List Piece) → held_of w xs ≡ held_of w ys → held_of w (pre ++ xs) ≡ held_of w (pre ++ ys)
held_under w [] xs ys e = e
held_under w (x ∷ pre) xs ys e = ap (λ n. cond (used_by w x) (held (row_of x)) n) (held_under w pre xs ys e)

-- the edit: in the middle other pieces of the same extent, which hold as little of v's as those before held
module _ (v : ℕ) (pre mid new post : List Piece) (none_was : has (used_by v) mid ≡ false) (none_is : has (used_by v) new ≡ false) where
  held_edit : held_of v (pre ++ (new ++ post)) ≡ held_of v (pre ++ (mid ++ post))
  held_edit = held_under v pre _ _ (held_skip v new post none_is ∙ sym (held_skip v mid post none_was))

  seek_edit : total new ≡ total mid → seek (used_by v) (pre ++ (new ++ post)) ≡ seek (used_by v) (pre ++ (mid ++ post))
  seek_edit e = seek_under (used_by v) pre _ _ (seek_skip (used_by v) new post none_is ∙ ap (λ n. n + seek (used_by v) post) e ∙ sym (seek_skip (used_by v) mid post none_was))

pub others : (w : ℕ) (pre mid new post : List Piece) → AllFine (pre ++ (mid ++ post)) → AllFine (pre ++ (new ++ post)) → total new ≡ total mid →
    ((v : ℕ) → (v ≡ w → ⊥) → (has (used_by v) mid ≡ false) × (has (used_by v) new ≡ false)) → Others (flat (pre ++ (mid ++ post))) (flat (pre ++ (new ++ post))) w
others w pre mid new post q q' e only =
    let a = length_flat (pre ++ (mid ++ post)) in
    let b = length_flat (pre ++ (new ++ post)) in
    let c = total_append pre (mid ++ post) in
    let d = total_append pre (new ++ post) in
    let f = total_append mid post in
    let g = total_append new post in
    record {
      long = omega arith;
      row = λ v ne. holds_pieces v _ q' ∙ held_edit v pre mid new post (only v ne).0 (only v ne).1 ∙ sym (holds_pieces v _ q);
      place = λ v ne. find_pieces v _ q' ∙ seek_edit v pre mid new post (only v ne).0 (only v ne).1 e ∙ sym (find_pieces v _ q);
    }

-- a part of the cells that is written is that edit
pub put_middle : (pre mid new post : List Piece) → put_mid (total pre) (total mid) (flat (pre ++ (mid ++ post))) (flat new) ≡ flat (pre ++ (new ++ post))
put_middle pre mid new post =
    let front : take (total pre) (flat (pre ++ (mid ++ post))) ≡ flat pre = ap (take (total pre)) (flat_append pre (mid ++ post)) ∙ take_at (flat pre) _ (total pre) (length_flat pre) in
    let back : drop (total mid) (drop (total pre) (flat (pre ++ (mid ++ post)))) ≡ flat post =
    ap (drop (total mid)) ((at_middle pre (mid ++ post)).rest ∙ flat_append mid post) ∙ drop_at (flat mid) (flat post) (total mid) (length_flat mid) in
    (λ j. front j ++ (flat new ++ back j)) ∙ ap (λ l. flat pre ++ l) (sym (flat_append new post)) ∙ sym (flat_append pre (new ++ post))

-- pieces with the same kinds and owners are as sound
pub same_sound : (its new : List Piece) → SoundPieces its → AllFine new → map kind new ≡ map kind its → owners new ≡ owners its → SoundPieces new
same_sound its new s f k o = record { fine = f; tidied = ap tidy k ∙ s.tidied; apart = ap nodup o ∙ s.apart }

-- somebody's own block
used_mine : (w : ℕ) (r : List ℕ) → used_by w (blk true w r) ≡ true
used_mine w r = eq-eqb w w refl

pub not_others : (v w : ℕ) (r : List ℕ) → (v ≡ w → ⊥) → has (used_by v) (blk true w r ∷ []) ≡ false
not_others v w r ne = rw (ne_eqb w v (λ e. ne (sym e)))

pub find_mine : (w : ℕ) (pre : List Piece) (r : List ℕ) (post : List Piece) → AllFine (pre ++ (blk true w r ∷ post)) → has (used_by w) pre ≡ false → find (flat (pre ++ (blk true w r ∷ post))) w ≡ total pre
find_mine w pre r post q f = find_pieces w _ q ∙ seek_skip (used_by w) pre (blk true w r ∷ post) f ∙ rw (used_mine w r) (add-zero _)

pub holds_mine : (w : ℕ) (pre : List Piece) (r : List ℕ) (post : List Piece) → AllFine (pre ++ (blk true w r ∷ post)) → has (used_by w) pre ≡ false → holds (flat (pre ++ (blk true w r ∷ post))) w ≡ held r
holds_mine w pre r post q f = holds_pieces w _ q ∙ held_skip w pre (blk true w r ∷ post) f ∙ rw (used_mine w r)
