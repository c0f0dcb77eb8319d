-- Giving back undoes taking, on a shelf whose free blocks are as we write them.
use Rattle.std.proofs.Common.{◌≡◌, ℕ, zero, suc, ◌+◌, ◌-◌, ◌<◌, ◌≤◌, true, false, not, List, [], ◌∷◌, ◌++◌, map, length, sym, refl, ap, ◌∙◌, subst, inl, append_assoc, add-zero, zero-add, arith}
use lib.ListN.{length-replicate}
use borrow.Rule.Slice.PartMut.{put_mid}
use Rattle.std.proofs.lemmas.List.{map-append}
use Rattle.std.proofs.lemmas.Bool.{false≢true, not-true, both_ways, and_parts, lt-ltb}
use Rattle.block.specs.Block.{size_for}
use Rattle.block.proofs.Blocks.{size_is}
use Rattle.shelf.specs.Walk.{next, find, room}
use Rattle.shelf.specs.Pieces.{Piece, gap, blk, flat, total, AllFine, used_by, Kind, Free, kind, idle_first, gap_ok, tidy, SoundPieces}
use Rattle.shelf.proofs.Along.{next_more}
use Rattle.shelf.proofs.Pieces.{length_flat, At, at_start, at_next, inside, onto_next}
use Rattle.shelf.proofs.Sounds.{idle_is}
use Rattle.shelf.proofs.Looks.{has, seek_in, free_for, room_pieces}
use Rattle.requests.specs.Free.{noughts, free_pieces, free_cells}
use Rattle.requests.specs.Plans.{taking_of, taken, giving_of, given, idle_start, idle_end}
use Rattle.requests.specs.Laws.{AsWritten, AllAsWritten, GiveUndoesTake}
use Rattle.requests.proofs.Edits.{total_append, at_middle, fine_right, put_middle, find_mine, split}
use Rattle.requests.proofs.Frees.{free_total}
use Rattle.requests.proofs.Takes.{Spare, spare_of, tidy_rest, take_cells, took_sound, absent_pre}
use Rattle.requests.proofs.Around.{AllIdle, idle_here, end_on, end_stop, Tail, tail_before}
use Rattle.requests.proofs.Says.{MayTake, may_take}

free_idle : (n : ℕ) → AllIdle (free_pieces n)
free_idle zero = tt
free_idle (suc zero) = (refl, tt)
free_idle (suc (suc zero)) = (refl, (refl, tt))
free_idle (suc (suc (suc n))) = (refl, tt)

-- the look behind a block passes over the idle pieces there, and stops
end_over : (f : ℕ) (a : List ℕ) (i : ℕ) (xs ys : List Piece) → AllIdle xs → not (idle_first (map kind ys)) ≡ true → AllFine (xs ++ ys) → At a i (xs ++ ys) → length a ≤ i + f → idle_end f a i ≡ i + total xs
end_over f a i [] ys j n q h l = end_stop a i (idle_is a i ys q h ∙ not-true _ n) f ∙ sym (add-zero i)
end_over zero a i (x ∷ xs) ys j n q h l = let e = inside a i x (xs ++ ys) h in absurd (omega arith)
end_over (suc f) a i (x ∷ xs) ys j n q h l =
    let m = next_more a i in
    let e = onto_next a i x (xs ++ ys) q.0 h in
    let r = end_over f a (next a i) xs ys j.1 n q.1 (at_next a i x (xs ++ ys) q.0 h) (omega arith) in
    end_on a i (idle_is a i (x ∷ (xs ++ ys)) q h ∙ idle_here x (xs ++ ys) ∙ j.0) f ∙ r ∙ omega arith

-- nothing idle stands before a free block
idle_before : (xs : List Piece) (ks : List Kind) → AllIdle xs → idle_first (map kind xs ++ (Free ∷ ks)) ≡ true
idle_before [] ks j = refl
idle_before (gap ∷ xs) ks j = refl
idle_before (blk true w r ∷ xs) ks j = absurd (false≢true j.0)
idle_before (blk false w r ∷ xs) ks j = refl

gap_before : (xs : List Piece) (ks : List Kind) → AllIdle xs → gap_ok (map kind xs ++ (Free ∷ ks)) ≡ false
gap_before [] ks j = refl
gap_before (gap ∷ xs) ks j = ap not (idle_before xs ks j.1)
gap_before (blk true w r ∷ xs) ks j = absurd (false≢true j.0)
gap_before (blk false w r ∷ xs) ks j = refl

none_before : (xs : List Piece) (ks : List Kind) → AllIdle xs → tidy (map kind xs ++ (Free ∷ ks)) ≡ true → xs ≡ []
none_before [] ks j t = refl
none_before (gap ∷ xs) ks j t = absurd (both_ways _ (gap_before xs ks j.1) (and_parts _ _ t).0)
none_before (blk true w r ∷ xs) ks j t = absurd (false≢true j.0)
none_before (blk false w r ∷ xs) ks j t = absurd (both_ways _ (ap not (idle_before xs ks j.1)) (and_parts _ _ t).0)

-- a free block as we write it is the free piece of its extent
free_again : (r : List ℕ) → r ≡ noughts (length r) → free_pieces (size_for (length r)) ≡ blk false 0 r ∷ []
free_again r e =
    let s : size_for (length r) ≡ suc (suc (suc (length r))) = size_is (length r) ∙ omega arith in
    ap free_pieces s ∙ ap (λ l. blk false 0 l ∷ []) (sym e)

module _ (pre : List Piece) (r : List ℕ) (post : List Piece) (w n : ℕ) (good : SoundPieces (pre ++ (blk false 0 r ∷ post))) (written : r ≡ noughts (length r))
    (new : SoundPieces (pre ++ (blk true w (noughts n) ∷ (free_pieces (length r - n) ++ post)))) (enough : n ≤ length r) (nobody : has (used_by w) pre ≡ false) where
  after_taking : List ℕ
  after_taking = flat (pre ++ (blk true w (noughts n) ∷ (free_pieces (length r - n) ++ post)))

  kinds : tidy (map kind pre ++ (Free ∷ map kind post)) ≡ true
  kinds = ap tidy (sym (map-append kind pre (blk false 0 r ∷ post))) ∙ good.tidied

  place : find after_taking w ≡ total pre
  unfolding after_taking
  place = find_mine w pre (noughts n) (free_pieces (length r - n) ++ post) new.fine nobody

  starts : idle_start (length after_taking) after_taking (find after_taking w) 0 0 ≡ total pre
  unfolding after_taking
  starts =
      let ys : List Piece = blk true w (noughts n) ∷ (free_pieces (length r - n) ++ post) in
      let t : Tail pre (idle_start (length after_taking) after_taking (0 + total pre) 0 0) = tail_before (length after_taking) after_taking 0 0 [] [] pre ys tt (inl refl) refl refl new.fine (at_start (pre ++ ys)) (omega arith) in
      let run_kinds : tidy (map kind t.run ++ (Free ∷ map kind post)) ≡ true =
      tidy_rest (map kind t.done) _ (ap tidy (sym (ap (λ l. map kind l ++ (Free ∷ map kind post)) t.whole ∙ ap (λ l. l ++ (Free ∷ map kind post)) (map-append kind t.done t.run) ∙ append_assoc (map kind t.done) (map kind t.run) _)) ∙ kinds) in
      let none = none_before t.run (map kind post) t.idles run_kinds in
      let e = ap total t.whole ∙ total_append t.done t.run in
      let z = ap total none in
      ap (λ p. idle_start (length after_taking) after_taking p 0 0) (place ∙ sym (zero-add _)) ∙ t.place ∙ omega arith

  ends : idle_end (length after_taking) after_taking (next after_taking (find after_taking w)) ≡ total pre + size_for (length r)
  unfolding after_taking
  ends =
      let b : Piece = blk true w (noughts n) in
      let rest : List Piece = free_pieces (length r - n) ++ post in
      let q = fine_right pre (b ∷ rest) new.fine in
      let at = at_middle pre (b ∷ rest) in
      let nx = onto_next after_taking (total pre) b rest q.0 at in
      let behind = and_parts _ _ (tidy_rest (map kind pre) (Free ∷ map kind post) kinds) in
      let e = end_over (length after_taking) after_taking (next after_taking (total pre)) (free_pieces (length r - n)) post (free_idle (length r - n)) behind.0 q.1 (at_next after_taking (total pre) b rest q.0 at) (omega arith) in
      let f = free_total (length r - n) in
      let s = size_is (length r) in
      let t = size_is (length (noughts n)) in
      let z = length-replicate {A = ℕ} n 0 in
      ap (λ p. idle_end (length after_taking) after_taking (next after_taking p)) place ∙ e ∙ omega arith

  whole : after_taking ≡ flat (pre ++ ((blk true w (noughts n) ∷ free_pieces (length r - n)) ++ post))
  unfolding after_taking
  whole = refl

  undone : given (giving_of after_taking w) after_taking ≡ flat (pre ++ (blk false 0 r ∷ post))
  undone =
      let mid : List Piece = blk true w (noughts n) ∷ free_pieces (length r - n) in
      let f = free_total (length r - n) in
      let s = size_is (length r) in
      let t = size_is (length (noughts n)) in
      let z = length-replicate {A = ℕ} n 0 in
      let k : idle_end (length after_taking) after_taking (next after_taking (find after_taking w)) - idle_start (length after_taking) after_taking (find after_taking w) 0 0 ≡ size_for (length r) = omega (arith, starts, ends) in
      let m : size_for (length r) ≡ total mid = omega arith in
      (λ j. put_mid (starts j) (k j) after_taking (free_cells (k j)))
      ∙ (λ j. put_mid (total pre) (m j) (whole j) (flat (free_again r written j)))
      ∙ put_middle pre mid (blk false 0 r ∷ []) post

  pub undone_from : (b : List ℕ) → b ≡ flat (pre ++ (blk true w (noughts n) ∷ (free_pieces (length r - n) ++ post))) → given (giving_of b w) b ≡ flat (pre ++ (blk false 0 r ∷ post))
  unfolding after_taking
  undone_from b e = ap (λ c. given (giving_of c w) c) e ∙ undone

written_behind : (xs ys : List Piece) → AllAsWritten (xs ++ ys) → AllAsWritten ys
written_behind [] ys h = h
written_behind (x ∷ xs) ys h = written_behind xs ys h.1

abbrev Undone : List ℕ → ℕ → ℕ → Type 0
Undone a w n = given (giving_of (taken (taking_of a w n) a) w) (taken (taking_of a w n) a) ≡ a

undo_free : (w n : ℕ) (pre : List Piece) (r : List ℕ) (post : List Piece) → SoundPieces (pre ++ (blk false 0 r ∷ post)) → r ≡ noughts (length r) → free_for n (blk false 0 r) ≡ true →
    room (flat (pre ++ (blk false 0 r ∷ post))) n ≡ total pre → MayTake (flat (pre ++ (blk false 0 r ∷ post))) w n → Undone (flat (pre ++ (blk false 0 r ∷ post))) w n
unfolding spare_of
undo_free w n pre r post s h f p m =
    let a = flat (pre ++ (blk false 0 r ∷ post)) in
    let sp : Spare a n = spare_of n pre (blk false 0 r) post s f p in
    undone_from pre r post w n s h (took_sound a w n sp m.owner m.few m.can.short m.nobody) sp.enough (absent_pre a w n sp m.owner m.few m.can.short m.nobody)
    (taken (taking_of a w n) a) (take_cells a w n sp m.owner m.few m.can.short m.nobody)

undo_piece : (w n : ℕ) (pre : List Piece) (x : Piece) (post : List Piece) → SoundPieces (pre ++ (x ∷ post)) → AsWritten x → free_for n x ≡ true → room (flat (pre ++ (x ∷ post))) n ≡ total pre →
    MayTake (flat (pre ++ (x ∷ post))) w n → Undone (flat (pre ++ (x ∷ post))) w n
undo_piece w n pre gap post s h f p m = absurd (false≢true f)
undo_piece w n pre (blk true v r) post s h f p m = absurd (false≢true f)
undo_piece w n pre (blk false v r) post s h f p m =
    subst (λ z. SoundPieces (pre ++ (blk false z r ∷ post)) → room (flat (pre ++ (blk false z r ∷ post))) n ≡ total pre → MayTake (flat (pre ++ (blk false z r ∷ post))) w n → Undone (flat (pre ++ (blk false z r ∷ post))) w n)
    (sym h.0) (λ s' p' m'. undo_free w n pre r post s' h.1 f p' m') s p m

undo_pieces : (w n : ℕ) (its : List Piece) → SoundPieces its → AllAsWritten its → room (flat its) n < length (flat its) → MayTake (flat its) w n → Undone (flat its) w n
undo_pieces w n its s h l m =
    let e = room_pieces n its s.fine in
    let k = length_flat its in
    let t = split (free_for n) its (sym (seek_in (free_for n) its) ∙ lt-ltb _ _ (omega arith)) in
    let p : room (flat its) n ≡ total t.pre = e ∙ t.place in
    subst (λ b. SoundPieces b → AllAsWritten b → room (flat b) n ≡ total t.pre → MayTake (flat b) w n → Undone (flat b) w n) (sym t.whole)
    (λ s' h' p' m'. undo_piece w n t.pre t.it t.post s' (written_behind t.pre (t.it ∷ t.post) h').0 t.passes p' m') s h p m

pub give_undoes_take : GiveUndoesTake
give_undoes_take a w n c r l =
    subst (λ b. room b n < length b → MayTake b w n → Undone b w n) (sym c.whole) (undo_pieces w n c.its c.good c.written) l (may_take a w n r)
