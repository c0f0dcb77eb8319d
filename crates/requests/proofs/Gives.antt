-- A block given back: what the shelf is then.
use Rattle.std.proofs.Common.{◌≡◌, ℕ, zero, suc, ◌-◌, ◌≤◌, Bool, true, false, not, List, [], ◌∷◌, ◌++◌, map, length, sym, refl, ap, ◌∙◌, subst, inl, inr, append_assoc, arith}
use borrow.Rule.Slice.PartMut.{put_mid}
use Rattle.std.proofs.lemmas.Bool.Decides.{nat_tests}
use Rattle.std.proofs.lemmas.List.{map-append}
use Rattle.std.proofs.lemmas.Bool.{false≢true, not-true, and_parts, and_from, or_parts, or_from, eq-eqb, ne_eqb}
use Rattle.block.proofs.Blocks.{size_is}
use Rattle.shelf.specs.Walk.{none}
use Rattle.shelf.specs.Pieces.{Piece, gap, blk, flat, total, used_by, held_of, Kind, Gap, Free, Used, kind, idle_first, gap_ok, tidy, owners, elem, nodup, SoundPieces}
use Rattle.shelf.proofs.Looks.{has, has_is, holds_pieces}
use Rattle.shelf.proofs.Sounds.{pieces_sound}
use Rattle.requests.specs.Entry.{Others, Gives}
use Rattle.requests.specs.Free.{free_pieces, free_cells}
use Rattle.requests.proofs.Edits.{total_append, owners_append, fine_left, fine_right, fine_both, others, put_middle}
use Rattle.requests.proofs.Frees.{free_total, free_fine, free_none, free_owners}
use Rattle.requests.proofs.Takes.{tidy_rest}
use Rattle.requests.proofs.Around.{AllIdle, Ends, Around}

-- idle pieces are nobody's
idle_none : (v : ℕ) (xs : List Piece) → AllIdle xs → has (used_by v) xs ≡ false
idle_none v [] h = refl
idle_none v (gap ∷ xs) h = idle_none v xs h.1
idle_none v (blk true w r ∷ xs) h = absurd (false≢true h.0)
idle_none v (blk false w r ∷ xs) h = idle_none v xs h.1

idle_owners : (xs : List Piece) → AllIdle xs → owners xs ≡ []
idle_owners [] h = refl
idle_owners (gap ∷ xs) h = idle_owners xs h.1
idle_owners (blk true w r ∷ xs) h = absurd (false≢true h.0)
idle_owners (blk false w r ∷ xs) h = idle_owners xs h.1

-- behind a block in use anything tidy may stand
module _ (ps qs : List Kind) where
  idle_swap : (ks : List Kind) → idle_first (ks ++ (Used ∷ ps)) ≡ idle_first (ks ++ (Used ∷ qs))
  idle_swap [] = refl
  idle_swap (Gap ∷ ks) = refl
  idle_swap (Free ∷ ks) = refl
  idle_swap (Used ∷ ks) = refl

  gap_swap : (ks : List Kind) → gap_ok (ks ++ (Used ∷ ps)) ≡ gap_ok (ks ++ (Used ∷ qs))
  gap_swap [] = refl
  gap_swap (Gap ∷ ks) = ap not (idle_swap ks)
  gap_swap (Free ∷ ks) = refl
  gap_swap (Used ∷ ks) = refl

  tidy_swap : (ks : List Kind) → tidy (ks ++ (Used ∷ ps)) ≡ true → tidy qs ≡ true → tidy (ks ++ (Used ∷ qs)) ≡ true
  tidy_swap [] h t = t
  tidy_swap (Gap ∷ ks) h t = let p = and_parts _ _ h in and_from _ _ (sym (gap_swap ks) ∙ p.0) (tidy_swap ks p.1 t)
  tidy_swap (Free ∷ ks) h t = let p = and_parts _ _ h in and_from _ _ (ap not (sym (idle_swap ks)) ∙ p.0) (tidy_swap ks p.1 t)
  tidy_swap (Used ∷ ks) h t = tidy_swap ks h t

kinds_swap : (done xs ys : List Piece) → Ends done → tidy (map kind (done ++ xs)) ≡ true → tidy (map kind ys) ≡ true → tidy (map kind (done ++ ys)) ≡ true
kinds_swap done xs ys (inl z) h t = subst (λ d. tidy (map kind (d ++ ys)) ≡ true) (sym z) t
kinds_swap done xs ys (inr z) h t =
    let b : Piece = blk true z.1 z.2 in
    let form : (l : List Piece) → map kind (done ++ l) ≡ map kind z.0 ++ (Used ∷ map kind l) =
    λ l. ap (λ d. map kind (d ++ l)) z.3 ∙ ap (map kind) (append_assoc z.0 (b ∷ []) l) ∙ map-append kind z.0 (b ∷ l) in
    ap tidy (form ys) ∙ tidy_swap (map kind xs) (map kind ys) (map kind z.0) (ap tidy (sym (form xs)) ∙ h) t

-- one owner less
elem_less : (v w : ℕ) (xs ys : List ℕ) → elem v (xs ++ (w ∷ ys)) ≡ false → elem v (xs ++ ys) ≡ false
elem_less v w [] ys h = (or_parts _ _ h).1
elem_less v w (x ∷ xs) ys h = let p = or_parts _ _ h in or_from _ _ p.0 (elem_less v w xs ys p.1)

nodup_less : (w : ℕ) (xs ys : List ℕ) → nodup (xs ++ (w ∷ ys)) ≡ true → nodup (xs ++ ys) ≡ true
nodup_less w [] ys h = (and_parts _ _ h).1
nodup_less w (x ∷ xs) ys h = let p = and_parts _ _ h in and_from _ _ (ap not (elem_less x w xs ys (not-true _ p.0))) (nodup_less w xs ys p.1)

elem_self : (x : ℕ) (xs ys : List ℕ) → elem x (xs ++ (x ∷ ys)) ≡ true
elem_self x [] ys = rw (eq-eqb x x refl)
elem_self x (y ∷ xs) ys = let r = elem_self x xs ys in grind (arith, nat_tests)

nodup_out : (w : ℕ) (xs ys : List ℕ) → nodup (xs ++ (w ∷ ys)) ≡ true → elem w (xs ++ ys) ≡ false
nodup_out w [] ys h = not-true _ (and_parts _ _ h).0
nodup_out w (x ∷ xs) ys h =
    let p = and_parts _ _ h in
    or_from _ _ (ne_eqb x w (λ e. false≢true (sym (not-true _ p.0) ∙ ap (λ v. elem v (xs ++ (w ∷ ys))) e ∙ elem_self w xs ys))) (nodup_out w xs ys p.1)

held_none : (w : ℕ) (its : List Piece) → has (used_by w) its ≡ false → held_of w its ≡ none
held_none w [] h = refl
held_none w (x ∷ xs) h = let p = or_parts (used_by w x) (has (used_by w) xs) h in rw p.0 (held_none w xs p.1)

has_append : (p : Piece → Bool) (xs ys : List Piece) → has p xs ≡ false → has p ys ≡ false → has p (xs ++ ys) ≡ false
has_append p [] ys h k = k
has_append p (x ∷ xs) ys h k = let q = or_parts _ _ h in or_from _ _ q.0 (has_append p xs ys q.1 k)

free_kinds : (n : ℕ) (rest : List Piece) → 3 ≤ n → map kind (free_pieces n ++ rest) ≡ Free ∷ map kind rest
free_kinds zero rest l = absurd (omega arith)
free_kinds (suc zero) rest l = absurd (omega arith)
free_kinds (suc (suc zero)) rest l = absurd (omega arith)
free_kinds (suc (suc (suc n))) rest l = refl

-- the idle pieces around a block in use become one with it
module _ (a : List ℕ) (w from end : ℕ) (m : Around a w from end) (short : length a ≤ 100000) where
  mid : List Piece
  mid = m.front ++ (blk true w m.row ∷ m.back)

  mid_is : mid ≡ m.front ++ (blk true w m.row ∷ m.back)
  unfolding mid
  mid_is = refl

  good : SoundPieces (m.done ++ (mid ++ m.rest))
  unfolding mid
  good = m.good

  few : total mid ≤ 100000
  unfolding mid
  few = omega (arith, m.finish, m.fits)

  mid_owners : owners mid ≡ w ∷ []
  unfolding mid
  mid_owners = owners_append m.front (blk true w m.row ∷ m.back) ∙ (λ j. idle_owners m.front m.idle_front j ++ (w ∷ idle_owners m.back m.idle_back j))

  mid_long : 3 ≤ total mid
  unfolding mid
  mid_long = let s = size_is (length m.row) in omega (arith, total_append m.front (blk true w m.row ∷ m.back))

  mid_none : (v : ℕ) → (v ≡ w → ⊥) → has (used_by v) mid ≡ false
  unfolding mid
  mid_none v ne = has_append (used_by v) m.front (blk true w m.row ∷ m.back) (idle_none v m.front m.idle_front) (or_from _ _ (ne_eqb w v (λ z. ne (sym z))) (idle_none v m.back m.idle_back))

  own : nodup (owners m.done ++ (w ∷ owners m.rest)) ≡ true
  own = ap nodup (sym (owners_append m.done _ ∙ ap (λ k. owners m.done ++ k) (owners_append mid m.rest ∙ ap (λ k. k ++ owners m.rest) mid_owners))) ∙ good.apart

  gave_owners : owners (m.done ++ (free_pieces (total mid) ++ m.rest)) ≡ owners m.done ++ owners m.rest
  gave_owners = owners_append m.done _ ∙ ap (λ k. owners m.done ++ k) (owners_append (free_pieces (total mid)) m.rest ∙ ap (λ k. k ++ owners m.rest) (free_owners (total mid)))

  gave_sound : SoundPieces (m.done ++ (free_pieces (total mid) ++ m.rest))
  gave_sound =
      let f = fine_right m.done _ good.fine in
      let behind : tidy (map kind m.rest) ≡ true =
      tidy_rest (map kind mid) (map kind m.rest) (ap tidy (sym (map-append kind mid m.rest)) ∙ tidy_rest (map kind m.done) _ (ap tidy (sym (map-append kind m.done (mid ++ m.rest))) ∙ good.tidied)) in
      record {
        fine = fine_both m.done _ (fine_left m.done _ good.fine) (fine_both (free_pieces (total mid)) m.rest (free_fine (total mid) few) (fine_right mid m.rest f));
        tidied = kinds_swap m.done _ (free_pieces (total mid) ++ m.rest) m.ends good.tidied (ap tidy (free_kinds (total mid) m.rest mid_long) ∙ and_from _ _ m.stops behind);
        apart = ap nodup gave_owners ∙ nodup_less w (owners m.done) (owners m.rest) own;
      }

  gave_none : held_of w (m.done ++ (free_pieces (total mid) ++ m.rest)) ≡ none
  gave_none = held_none w (m.done ++ (free_pieces (total mid) ++ m.rest)) (has_is w (m.done ++ (free_pieces (total mid) ++ m.rest)) ∙ ap (elem w) gave_owners ∙ nodup_out w (owners m.done) (owners m.rest) own)

  gave : Gives a w (flat (m.done ++ (free_pieces (total mid) ++ m.rest)))
  gave =
      let g = gave_sound in
      let same = others w m.done mid (free_pieces (total mid)) m.rest good.fine g.fine (free_total (total mid)) (λ v ne. (mid_none v ne, free_none v (total mid))) in
      record {
        stays_sound = pieces_sound _ g;
        holding = holds_pieces w _ g.fine ∙ gave_none;
        others = subst (λ b. Others b (flat (m.done ++ (free_pieces (total mid) ++ m.rest))) w) (sym whole) same;
      }
    where
      whole : a ≡ flat (m.done ++ (mid ++ m.rest))
      whole = m.whole ∙ ap (λ k. flat (m.done ++ (k ++ m.rest))) (sym mid_is)

  -- the cells as they are written are those of the pieces
  give_cells : put_mid from (end - from) a (free_cells (end - from)) ≡ flat (m.done ++ (free_pieces (total mid) ++ m.rest))
  give_cells =
      let k : end - from ≡ total mid = let e = ap total mid_is in omega (arith, m.finish, m.start) in
      let whole : a ≡ flat (m.done ++ (mid ++ m.rest)) = m.whole ∙ ap (λ l. flat (m.done ++ (l ++ m.rest))) (sym mid_is) in
      (λ j. put_mid (m.start j) (k j) (whole j) (free_cells (k j))) ∙ put_middle m.done mid (free_pieces (total mid)) m.rest

  pub give_done : Gives a w (put_mid from (end - from) a (free_cells (end - from)))
  give_done = subst (Gives a w) (sym give_cells) gave
