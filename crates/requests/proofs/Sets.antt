-- A cell of somebody's row set: what the shelf is then.
use Rattle.std.proofs.Common.{◌≡◌, ℕ, zero, suc, ◌+◌, ◌<◌, Bool, true, List, [], ◌∷◌, ◌++◌, set, sym, ap, ◌∙◌, subst, append-nil, arith, length-set}
use borrow.Rule.Slice.PartMut.{put_mid}
use Rattle.std.proofs.lemmas.List.{map-append}
use Rattle.std.proofs.lemmas.Bool.{and_parts, and_from, lt-ltb}
use Rattle.block.specs.Cell.{limit}
use Rattle.block.specs.Block.{size_for, size, all_small, content, block_cells}
use Rattle.shelf.specs.Walk.{find, held}
use Rattle.shelf.specs.Pieces.{blk, flat, kind, total, Fine, SoundPieces}
use Rattle.shelf.proofs.Sounds.{pieces_sound}
use Rattle.requests.specs.Entry.{Others, Sets}
use Rattle.requests.proofs.Edits.{owners_append, fine_left, fine_right, fine_both, others, put_middle, same_sound, not_others, find_mine, holds_mine}
use Rattle.requests.proofs.Holding.{Mine, size_mine}

small_set : (r : List ℕ) (k x : ℕ) → all_small r ≡ true → x < limit → all_small (set r k x) ≡ true
unfolding all_small
small_set [] k x s h = s
small_set (y ∷ ys) zero x s h = and_from _ _ (lt-ltb x limit h) (and_parts _ _ s).1
small_set (y ∷ ys) (suc k) x s h = and_from _ _ (and_parts _ _ s).0 (small_set ys k x (and_parts _ _ s).1 h)

set_fine : (u : Bool) (w : ℕ) (r : List ℕ) (k x : ℕ) → x < limit → Fine (blk u w r) → Fine (blk u w (set r k x))
set_fine u w r k x l f = record { owner = f.owner; small = small_set r k x f.small l; live = rw (length-set r k x) f.live }

module _ (a : List ℕ) (w k x : ℕ) (m : Mine a w) (below : x < limit) where
  after_sound : SoundPieces (m.pre ++ (blk true w (set m.row k x) ∷ m.post))
  after_sound =
      let f = fine_right m.pre (blk true w m.row ∷ m.post) m.good.fine in
      same_sound _ _ m.good (fine_both m.pre _ (fine_left m.pre _ m.good.fine) (set_fine true w m.row k x below f.0, f.1))
      (map-append kind m.pre _ ∙ sym (map-append kind m.pre _))
      (owners_append m.pre _ ∙ sym (owners_append m.pre _))

  -- the cells as they are written are those of the pieces
  pub set_cells : put_mid (find a w) (size a (find a w)) a (block_cells true w (set (content a (find a w)) k x)) ≡ flat (m.pre ++ (blk true w (set m.row k x) ∷ m.post))
  set_cells =
      let n : size a (find a w) ≡ total (blk true w m.row ∷ []) = size_mine a w m ∙ omega arith in
      let new : block_cells true w (set (content a (find a w)) k x) ≡ flat (blk true w (set m.row k x) ∷ []) = ap (λ r. block_cells true w (set r k x)) m.here.content_is ∙ sym (append-nil _) in
      (λ j. put_mid (m.place j) (n j) (m.whole j) (new j)) ∙ put_middle m.pre (blk true w m.row ∷ []) (blk true w (set m.row k x) ∷ []) m.post

  set_pieces : Sets a w k x (flat (m.pre ++ (blk true w (set m.row k x) ∷ m.post)))
  set_pieces =
      let s = after_sound in
      let same = others w m.pre (blk true w m.row ∷ []) (blk true w (set m.row k x) ∷ []) m.post m.good.fine s.fine
      (ap (λ n. size_for n + 0) (length-set m.row k x)) (λ v ne. (not_others v w m.row ne, not_others v w (set m.row k x) ne)) in
      record {
        stays_sound = pieces_sound _ s;
        place = find_mine w m.pre _ m.post s.fine m.first ∙ sym m.place;
        holding = holds_mine w m.pre _ m.post s.fine m.first ∙ ap (λ r. held (set r k x)) (sym m.here.content_is);
        others = subst (λ b. Others b (flat (m.pre ++ (blk true w (set m.row k x) ∷ m.post))) w) (sym m.whole) same;
      }

  pub set_done : Sets a w k x (put_mid (find a w) (size a (find a w)) a (block_cells true w (set (content a (find a w)) k x)))
  set_done = subst (Sets a w k x) (sym set_cells) set_pieces
