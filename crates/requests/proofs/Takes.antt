-- A block taken: what the shelf is then.
use Rattle.std.proofs.Common.{◌≡◌, ℕ, ◌+◌, ◌-◌, ◌<◌, ◌≤◌, Bool, true, false, not, eqb, ltb, leb, List, [], ◌∷◌, ◌++◌, map, length, sym, refl, ap, ◌∙◌, subst, arith}
use lib.ListN.{length-replicate}
use borrow.Rule.Slice.PartMut.{put_mid}
use Rattle.std.proofs.lemmas.List.{map-append}
use Rattle.std.proofs.lemmas.Bool.{false≢true, not-true, and_parts, and_from, or_parts, or_from, leb-true, le-leb, ne_eqb, eqb-false, lt-ltb, le-ltb}
use Rattle.block.specs.Cell.{limit}
use Rattle.block.specs.Block.{long, size_for, size, block_cells}
use Rattle.block.specs.Laws.{Stands}
use Rattle.block.proofs.Blocks.{size_is}
use Rattle.shelf.specs.Walk.{find, room, has_room}
use Rattle.shelf.specs.Sound.{sound}
use Rattle.shelf.specs.Pieces.{Piece, gap, blk, flat, total, AllFine, used_by, Kind, Gap, Free, Used, kind, idle_first, gap_ok, tidy, owners, elem, nodup, SoundPieces}
use Rattle.shelf.proofs.Pieces.{length_flat, stands}
use Rattle.shelf.proofs.Looks.{seek, has, seek_in, has_is, free_for, find_pieces, room_pieces, has_room_is}
use Rattle.shelf.proofs.Places.{block_head}
use Rattle.shelf.proofs.Sounds.{sound_pieces, pieces_sound}
use Rattle.requests.specs.Entry.{Others, Takes}
use Rattle.requests.specs.Free.{noughts, free_pieces, free_cells}
use Rattle.requests.proofs.Edits.{total_append, owners_append, fine_left, fine_right, fine_both, at_middle, split, others, put_middle, find_mine, holds_mine}
use Rattle.requests.proofs.Frees.{noughts_fine, free_total, free_fine, free_none, free_owners, free_tidy}

-- tidiness where a free block becomes one in use
module _ (ps qs : List Kind) where
  idle_less : (ks : List Kind) → not (idle_first (ks ++ (Free ∷ ps))) ≡ true → not (idle_first (ks ++ (Used ∷ qs))) ≡ true
  idle_less [] h = refl
  idle_less (Gap ∷ ks) h = h
  idle_less (Free ∷ ks) h = h
  idle_less (Used ∷ ks) h = h

  gap_less : (ks : List Kind) → gap_ok (ks ++ (Free ∷ ps)) ≡ true → gap_ok (ks ++ (Used ∷ qs)) ≡ true
  gap_less [] h = refl
  gap_less (Gap ∷ ks) h = idle_less ks h
  gap_less (Free ∷ ks) h = h
  gap_less (Used ∷ ks) h = h

  tidy_less : (ks : List Kind) → tidy (ks ++ (Free ∷ ps)) ≡ true → tidy qs ≡ true → tidy (ks ++ (Used ∷ qs)) ≡ true
  tidy_less [] h t = t
  tidy_less (Gap ∷ ks) h t = let p = and_parts _ _ h in and_from _ _ (gap_less ks p.0) (tidy_less ks p.1 t)
  tidy_less (Free ∷ ks) h t = let p = and_parts _ _ h in and_from _ _ (idle_less ks p.0) (tidy_less ks p.1 t)
  tidy_less (Used ∷ ks) h t = tidy_less ks h t

pub tidy_rest : (ks ps : List Kind) → tidy (ks ++ ps) ≡ true → tidy ps ≡ true
tidy_rest [] ps h = h
tidy_rest (Gap ∷ ks) ps h = tidy_rest ks ps (and_parts _ _ h).1
tidy_rest (Free ∷ ks) ps h = tidy_rest ks ps (and_parts _ _ h).1
tidy_rest (Used ∷ ks) ps h = tidy_rest ks ps h

-- one owner more
elem_more : (v w : ℕ) (xs ys : List ℕ) → eqb w v ≡ false → elem v (xs ++ ys) ≡ false → elem v (xs ++ (w ∷ ys)) ≡ false
elem_more v w [] ys n h = or_from _ _ n h
elem_more v w (x ∷ xs) ys n h = let p = or_parts _ _ h in or_from _ _ p.0 (elem_more v w xs ys n p.1)

nodup_more : (w : ℕ) (xs ys : List ℕ) → nodup (xs ++ ys) ≡ true → elem w (xs ++ ys) ≡ false → nodup (xs ++ (w ∷ ys)) ≡ true
nodup_more w [] ys h n = and_from _ _ (ap not n) h
nodup_more w (x ∷ xs) ys h n =
    let p = and_parts _ _ h in
    let q = or_parts (eqb x w) _ n in
    let turned : eqb w x ≡ false = ne_eqb w x (λ e. eqb-false x w q.0 (sym e)) in
    and_from _ _ (ap not (elem_more x w xs ys turned (not-true _ p.0))) (nodup_more w xs ys p.1 q.1)

-- the free block that is taken, with the pieces before and behind it
pub record Spare (a : List ℕ) (n : ℕ) : Type 0 where
  pub pre : List Piece
  pub owner : ℕ
  pub row : List ℕ
  pub post : List Piece
  pub whole : a ≡ flat (pre ++ (blk false owner row ∷ post))
  pub good : SoundPieces (pre ++ (blk false owner row ∷ post))
  pub enough : n ≤ length row
  pub place : room a n ≡ total pre
  pub here : Stands a (total pre) false owner row
  pub fits : total pre + size_for (length row) ≤ length a

unfoldable pub spare_of : (n : ℕ) (pre : List Piece) (x : Piece) (post : List Piece) → SoundPieces (pre ++ (x ∷ post)) → free_for n x ≡ true → room (flat (pre ++ (x ∷ post))) n ≡ total pre → Spare (flat (pre ++ (x ∷ post))) n
spare_of n pre gap post s f p = absurd (false≢true f)
spare_of n pre (blk true w r) post s f p = absurd (false≢true f)
spare_of n pre (blk false w r) post s f p = record {
  pre = pre;
  owner = w;
  row = r;
  post = post;
  whole = refl;
  good = s;
  enough = leb-true n (length r) f;
  place = p;
  here = stands _ (total pre) false w r post (fine_right pre _ s.fine).0 (at_middle pre (blk false w r ∷ post));
  fits = omega (arith, length_flat (pre ++ (blk false w r ∷ post)), total_append pre (blk false w r ∷ post));
}

spare_in : (n : ℕ) (its : List Piece) → SoundPieces its → has (free_for n) its ≡ true → Spare (flat its) n
spare_in n its s h =
    let t = split (free_for n) its h in
    let p : room (flat its) n ≡ total t.pre = room_pieces n its s.fine ∙ t.place in
    subst (λ l. Spare (flat l) n) (sym t.whole) (spare_of n t.pre t.it t.post (subst SoundPieces t.whole s) t.passes (subst (λ l. room (flat l) n ≡ total t.pre) t.whole p))

pub spare : (a : List ℕ) (n : ℕ) → sound a ≡ true → room a n < length a → Spare a n
spare a n s l =
    let t = sound_pieces a s in
    let its = t.0 in
    let l' : room (flat its) n < length (flat its) = subst (λ b. room b n < length b) t.1 l in
    let h : has (free_for n) its ≡ true = sym (seek_in (free_for n) its) ∙ lt-ltb _ _ (let e = room_pieces n its t.2.fine in let f = length_flat its in omega arith) in
    subst (λ b. Spare b n) (sym t.1) (spare_in n its t.2 h)

pub room_tells : (a : List ℕ) (n : ℕ) → has_room (length a) a n 0 ≡ ltb (room a n) (length a)
unfolding room
room_tells a n = has_room_is (length a) a n 0

-- whoever isn't found is no owner
none_of : (w : ℕ) (its : List Piece) → AllFine its → length (flat its) ≤ find (flat its) w → has (used_by w) its ≡ false
none_of w its q l = sym (seek_in (used_by w) its) ∙ le-ltb (seek (used_by w) its) (total its) (omega (arith, find_pieces w its q, length_flat its))

has_front : (p : Piece → Bool) (xs ys : List Piece) → has p (xs ++ ys) ≡ false → has p xs ≡ false
has_front p [] ys h = refl
has_front p (x ∷ xs) ys h = let q = or_parts _ _ h in or_from _ _ q.0 (has_front p xs ys q.1)

module _ (a : List ℕ) (w n : ℕ) (m : Spare a n) (below : w < limit) (few : n ≤ 100000) (short : length a ≤ 100000) (nobody : length a ≤ find a w) where
  absent : has (used_by w) (m.pre ++ (blk false m.owner m.row ∷ m.post)) ≡ false
  absent = none_of w _ m.good.fine (subst (λ b. length b ≤ find b w) m.whole nobody)

  pub absent_pre : has (used_by w) m.pre ≡ false
  absent_pre = has_front (used_by w) m.pre (blk false m.owner m.row ∷ m.post) absent

  pub took_sound : SoundPieces (m.pre ++ (blk true w (noughts n) ∷ (free_pieces (length m.row - n) ++ m.post)))
  took_sound =
      let k : ℕ = length m.row - n in
      let s = size_is (length m.row) in
      let f = fine_right m.pre _ m.good.fine in
      let kinds : tidy (map kind m.pre ++ (Free ∷ map kind m.post)) ≡ true = ap tidy (sym (map-append kind m.pre _)) ∙ m.good.tidied in
      let behind = and_parts _ _ (tidy_rest (map kind m.pre) (Free ∷ map kind m.post) kinds) in
      let own : nodup (owners m.pre ++ owners m.post) ≡ true = ap nodup (sym (owners_append m.pre _)) ∙ m.good.apart in
      let out : elem w (owners m.pre ++ owners m.post) ≡ false =
      ap (elem w) (sym (owners_append m.pre (blk false m.owner m.row ∷ m.post))) ∙ sym (has_is w (m.pre ++ (blk false m.owner m.row ∷ m.post))) ∙ absent in
      record {
        fine = fine_both m.pre _ (fine_left m.pre _ m.good.fine) (noughts_fine true w n below few, fine_both (free_pieces k) m.post (free_fine k (omega (arith, m.fits))) f.1);
        tidied = ap tidy (map-append kind m.pre _ ∙ ap (λ l. map kind m.pre ++ (Used ∷ l)) (map-append kind (free_pieces k) m.post))
            ∙ tidy_less (map kind m.post) _ (map kind m.pre) kinds (free_tidy k (map kind m.post) behind.0 behind.1);
        apart = ap nodup (owners_append m.pre _ ∙ ap (λ l. owners m.pre ++ (w ∷ l)) (owners_append (free_pieces k) m.post ∙ ap (λ l. l ++ owners m.post) (free_owners k)))
            ∙ nodup_more w (owners m.pre) (owners m.post) own out;
      }

  took_total : total (blk true w (noughts n) ∷ free_pieces (length m.row - n)) ≡ size_for (length m.row) + 0
  took_total =
      let z = length-replicate {A = ℕ} n 0 in
      let s = size_is (length m.row) in
      let t = size_is (length (noughts n)) in
      let u = free_total (length m.row - n) in
      omega (arith, m.enough)

  took : Takes a w n (flat (m.pre ++ (blk true w (noughts n) ∷ (free_pieces (length m.row - n) ++ m.post))))
  took =
      let s = took_sound in
      let k : ℕ = length m.row - n in
      let place = find_mine w m.pre (noughts n) (free_pieces k ++ m.post) s.fine absent_pre in
      let there = m.here in
      let p = size_is (length m.row) in
      let same = others w m.pre (blk false m.owner m.row ∷ []) (blk true w (noughts n) ∷ free_pieces k) m.post m.good.fine s.fine
      took_total (λ v ne. (refl, or_from _ _ (ne_eqb w v (λ e. ne (sym e))) (free_none v k))) in
      record {
        room = room_tells a n ∙ lt-ltb _ _ (omega (arith, m.place, m.fits));
        stays_sound = pieces_sound _ s;
        began = rw place (and_from _ _ (block_head a (total m.pre) there.stands) (and_from _ _ (ap not there.in_use_is) (ap (leb n) there.long_is ∙ le-leb n _ m.enough)));
        holding = holds_mine w m.pre (noughts n) (free_pieces k ++ m.post) s.fine absent_pre;
        others = subst (λ b. Others b (flat (m.pre ++ (blk true w (noughts n) ∷ (free_pieces k ++ m.post)))) w) (sym m.whole) same;
      }

  -- the cells as they are written are those of the pieces
  pub take_cells : put_mid (room a n) (size a (room a n)) a (block_cells true w (noughts n) ++ free_cells (size a (room a n) - size_for n)) ≡ flat (m.pre ++ (blk true w (noughts n) ∷ (free_pieces (length m.row - n) ++ m.post)))
  take_cells =
      let l : long a (room a n) ≡ length m.row = ap (long a) m.place ∙ m.here.long_is in
      let e : size a (room a n) ≡ total (blk false m.owner m.row ∷ []) = ap size_for l ∙ omega arith in
      let s = size_is (length m.row) in
      let t = size_is n in
      let over : size a (room a n) - size_for n ≡ length m.row - n = omega arith in
      (λ j. put_mid (m.place j) (e j) (m.whole j) (block_cells true w (noughts n) ++ free_cells (over j)))
      ∙ put_middle m.pre (blk false m.owner m.row ∷ []) (blk true w (noughts n) ∷ free_pieces (length m.row - n)) m.post

  pub take_done : Takes a w n (put_mid (room a n) (size a (room a n)) a (block_cells true w (noughts n) ++ free_cells (size a (room a n) - size_for n)))
  take_done = subst (Takes a w n) (sym take_cells) took
