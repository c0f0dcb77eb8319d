-- What is idle on both sides of somebody's block: where it begins and ends, by the pieces.
use Rattle.std.proofs.Common.{◌≡◌, ℕ, zero, suc, ◌+◌, ◌<◌, ◌≤◌, Bool, true, false, cond, not, ◌⊎◌, List, [], ◌∷◌, ◌++◌, map, length, sym, refl, ap, ◌∙◌, subst, inl, inr, append_assoc, append-nil, add-zero, zero-add, arith}
use Rattle.std.proofs.lemmas.Bool.{cases_Bool, false≢true, and_parts, ltb-true, lt-ltb, le-ltb}
use Rattle.block.specs.Block.{size_for}
use Rattle.shelf.specs.Walk.{next, find}
use Rattle.shelf.specs.Sound.{idle}
use Rattle.shelf.specs.Pieces.{Piece, gap, blk, flat, extent, total, AllFine, kind, idle_first, SoundPieces}
use Rattle.shelf.proofs.Along.{next_more}
use Rattle.shelf.proofs.Pieces.{At, at_start, at_next, inside, extent_pos, onto_next}
use Rattle.shelf.proofs.Sounds.{idle_is}
use Rattle.requests.specs.Plans.{idle_start, idle_end}
use Rattle.requests.proofs.Edits.{total_append, fine_right}
use Rattle.requests.proofs.Holding.{Mine}

-- one step of the two looks
pub start_on : (a : List ℕ) (p i from : ℕ) → i < p → (g : ℕ) → idle_start (suc g) a p i from ≡ idle_start g a p (next a i) (cond (idle a i) from (next a i))
unfolding idle_start
start_on a p i from l g = rw (lt-ltb i p l)

pub start_stop : (a : List ℕ) (p i from f : ℕ) → p ≤ i → idle_start f a p i from ≡ from
unfolding idle_start
start_stop a p i from zero l = refl
start_stop a p i from (suc f) l = rw (le-ltb i p l)

pub end_on : (a : List ℕ) (i : ℕ) → idle a i ≡ true → (g : ℕ) → idle_end (suc g) a i ≡ idle_end g a (next a i)
unfolding idle_end
end_on a i e g = rw e

pub end_stop : (a : List ℕ) (i : ℕ) → idle a i ≡ false → (f : ℕ) → idle_end f a i ≡ i
unfolding idle_end
end_stop a i e zero = refl
end_stop a i e (suc f) = rw e

pub idle_inside : (a : List ℕ) (i : ℕ) → idle a i ≡ true → i < length a
idle_inside a i e = ltb-true _ _ (and_parts _ _ e).0

-- idle pieces
abbrev pub idle_piece : Piece → Bool
idle_piece gap = true
idle_piece (blk u w r) = not u

abbrev pub AllIdle : List Piece → Type 0
AllIdle [] = Unit {0}
AllIdle (x ∷ xs) = (idle_piece x ≡ true) × AllIdle xs

pub idle_here : (x : Piece) (xs : List Piece) → idle_first (map kind (x ∷ xs)) ≡ idle_piece x
idle_here gap xs = refl
idle_here (blk true w r) xs = refl
idle_here (blk false w r) xs = refl

idle_push : (xs : List Piece) (x : Piece) → AllIdle xs → idle_piece x ≡ true → AllIdle (xs ++ (x ∷ []))
idle_push [] x h e = (e, tt)
idle_push (y ∷ xs) x h e = (h.0, idle_push xs x h.1 e)

-- what stands from a place on: idle pieces, and then none
record Run (i : ℕ) (its : List Piece) (e : ℕ) : Type 0 where
  pub run : List Piece
  pub rest : List Piece
  pub whole : its ≡ run ++ rest
  pub idles : AllIdle run
  pub stops : not (idle_first (map kind rest)) ≡ true
  pub place : e ≡ i + total run

run_from : (f : ℕ) (a : List ℕ) (i : ℕ) (its : List Piece) → AllFine its → At a i its → length a ≤ i + f → Run i its (idle_end f a i)
run_from f a i [] q h l = record { run = []; rest = []; whole = refl; idles = tt; stops = refl; place = end_stop a i (idle_is a i [] q h) f ∙ sym (add-zero i) }
run_from zero a i (x ∷ xs) q h l = let e = inside a i x xs h in absurd (omega arith)
run_from (suc f) a i (x ∷ xs) q h l =
    let m = next_more a i in
    let t = idle_is a i (x ∷ xs) q h ∙ idle_here x xs in
    let n = onto_next a i x xs q.0 h in
    elim (cases_Bool (idle_piece x)) [
      | inl y ↦
          let on = run_from f a (next a i) xs q.1 (at_next a i x xs q.0 h) (omega arith) in
          record {
            run = x ∷ on.run;
            rest = on.rest;
            whole = ap (λ k. x ∷ k) on.whole;
            idles = (y, on.idles);
            stops = on.stops;
            place = end_on a i (t ∙ y) f ∙ on.place ∙ omega arith;
          }
      | inr y ↦ record { run = []; rest = x ∷ xs; whole = refl; idles = tt; stops = ap not (idle_here x xs ∙ y); place = end_stop a i (t ∙ y) (suc f) ∙ sym (add-zero i) }
    ]

-- pieces that end with a block in use, or none
abbrev pub Ends : List Piece → Type 0
Ends done = (done ≡ []) ⊎ ((d : List Piece) × (w : ℕ) × (r : List ℕ) × (done ≡ d ++ (blk true w r ∷ [])))

-- what stands before a place: such pieces, and then idle ones
pub record Tail (its : List Piece) (n : ℕ) : Type 0 where
  pub done : List Piece
  pub run : List Piece
  pub whole : its ≡ done ++ run
  pub idles : AllIdle run
  pub ends : Ends done
  pub place : n ≡ total done

used_ends : (d : List Piece) (x : Piece) → idle_piece x ≡ false → Ends (d ++ (x ∷ []))
used_ends d gap e = absurd (false≢true (sym e))
used_ends d (blk true w r) e = inr (d, w, r, refl)
used_ends d (blk false w r) e = absurd (false≢true (sym e))

pub tail_before : (f : ℕ) (a : List ℕ) (i from : ℕ) (done run xs ys : List Piece) → AllIdle run → Ends done → from ≡ total done → i ≡ total (done ++ run) → AllFine (xs ++ ys) → At a i (xs ++ ys) → length a ≤ i + f →
    Tail ((done ++ run) ++ xs) (idle_start f a (i + total xs) i from)
tail_before f a i from done run [] ys c e p k q h l =
    record { done = done; run = run; whole = append-nil _; idles = c; ends = e; place = start_stop a (i + 0) i from f (omega arith) ∙ p }
tail_before zero a i from done run (x ∷ xs) ys c e p k q h l = let g = inside a i x (xs ++ ys) h in absurd (omega arith)
tail_before (suc f) a i from done run (x ∷ xs) ys c e p k q h l =
    let m = next_more a i in
    let z = extent_pos x in
    let t = idle_is a i (x ∷ (xs ++ ys)) q h ∙ idle_here x (xs ++ ys) in
    let n = onto_next a i x (xs ++ ys) q.0 h in
    let on = at_next a i x (xs ++ ys) q.0 h in
    let s : next a i + total xs ≡ i + (extent x + total xs) = omega arith in
    let step : (b : Bool) → idle_piece x ≡ b → idle_start f a (next a i + total xs) (next a i) (cond b from (next a i)) ≡ idle_start (suc f) a (i + (extent x + total xs)) i from =
    λ b y. (λ j. idle_start f a (s j) (next a i) (cond (sym (t ∙ y) j) from (next a i))) ∙ sym (start_on a _ i from (omega arith) f) in
    elim (cases_Bool (idle_piece x)) [
      | inl y ↦
          let w : (done ++ (run ++ (x ∷ []))) ++ xs ≡ (done ++ run) ++ (x ∷ xs) = ap (λ b. b ++ xs) (sym (append_assoc done run (x ∷ []))) ∙ append_assoc (done ++ run) (x ∷ []) xs in
          subst (λ b. Tail b (idle_start (suc f) a (i + (extent x + total xs)) i from)) w
          (subst (λ b. Tail ((done ++ (run ++ (x ∷ []))) ++ xs) b) (step true y)
          (tail_before f a (next a i) from done (run ++ (x ∷ [])) xs ys (idle_push run x c y) e p
          (omega (arith, total_append done (run ++ (x ∷ [])), total_append run (x ∷ []), total_append done run)) q.1 on (omega arith)))
      | inr y ↦
          let d : List Piece = (done ++ run) ++ (x ∷ []) in
          let w : (d ++ []) ++ xs ≡ (done ++ run) ++ (x ∷ xs) = ap (λ b. b ++ xs) (append-nil d) ∙ append_assoc (done ++ run) (x ∷ []) xs in
          let far : next a i ≡ total d = n ∙ omega (arith, total_append (done ++ run) (x ∷ [])) in
          subst (λ b. Tail b (idle_start (suc f) a (i + (extent x + total xs)) i from)) w
          (subst (λ b. Tail ((d ++ []) ++ xs) b) (step false y)
          (tail_before f a (next a i) (next a i) d [] xs ys tt (used_ends (done ++ run) x y) far (far ∙ ap total (sym (append-nil d))) q.1 on (omega arith)))
    ]

-- somebody's block and what is idle around it
pub record Around (a : List ℕ) (w from end : ℕ) : Type 0 where
  pub done : List Piece
  pub front : List Piece
  pub row : List ℕ
  pub back : List Piece
  pub rest : List Piece
  pub ends : Ends done
  pub idle_front : AllIdle front
  pub idle_back : AllIdle back
  pub stops : not (idle_first (map kind rest)) ≡ true
  pub whole : a ≡ flat (done ++ ((front ++ (blk true w row ∷ back)) ++ rest))
  pub good : SoundPieces (done ++ ((front ++ (blk true w row ∷ back)) ++ rest))
  pub start : from ≡ total done
  pub place : find a w ≡ total done + total front
  pub finish : end ≡ total done + total (front ++ (blk true w row ∷ back))
  pub fits : end ≤ length a

joined_up : (done front back rest pre post : List Piece) (b : Piece) → pre ≡ done ++ front → post ≡ back ++ rest → pre ++ (b ∷ post) ≡ done ++ ((front ++ (b ∷ back)) ++ rest)
joined_up done front back rest pre post b e f = (λ j. e j ++ (b ∷ f j)) ∙ append_assoc done front (b ∷ (back ++ rest)) ∙ ap (λ k. done ++ k) (sym (append_assoc front (b ∷ back) rest))

pub around : (a : List ℕ) (w : ℕ) → Mine a w → Around a w (idle_start (length a) a (find a w) 0 0) (idle_end (length a) a (next a (find a w)))
around a w m =
    let p = find a w in
    let its : List Piece = m.pre ++ (blk true w m.row ∷ m.post) in
    let q : AllFine (blk true w m.row ∷ m.post) = fine_right m.pre _ m.good.fine in
    let here : At a 0 its = subst (λ c. At c 0 its) (sym m.whole) (at_start its) in
    let tl : Tail m.pre (idle_start (length a) a (0 + total m.pre) 0 0) =
    tail_before (length a) a 0 0 [] [] m.pre (blk true w m.row ∷ m.post) tt (inl refl) refl refl m.good.fine here (omega arith) in
    let on : At a (next a p) m.post = at_next a p (blk true w m.row) m.post q.0 m.there in
    let hd : Run (next a p) m.post (idle_end (length a) a (next a p)) = run_from (length a) a (next a p) m.post q.1 on (omega arith) in
    let j : its ≡ tl.done ++ ((tl.run ++ (blk true w m.row ∷ hd.run)) ++ hd.rest) = joined_up tl.done tl.run hd.run hd.rest m.pre m.post _ tl.whole hd.whole in
    let st : idle_start (length a) a p 0 0 ≡ total tl.done = ap (λ k. idle_start (length a) a k 0 0) (m.place ∙ sym (zero-add _)) ∙ tl.place in
    let nx : next a p ≡ p + size_for (length m.row) = onto_next a p (blk true w m.row) m.post q.0 m.there in
    let t1 = ap total tl.whole ∙ total_append tl.done tl.run in
    let t2 = total_append tl.run (blk true w m.row ∷ hd.run) in
    let t3 = ap total hd.whole ∙ total_append hd.run hd.rest in
    record {
      done = tl.done;
      front = tl.run;
      row = m.row;
      back = hd.run;
      rest = hd.rest;
      ends = tl.ends;
      idle_front = tl.idles;
      idle_back = hd.idles;
      stops = hd.stops;
      whole = m.whole ∙ ap flat j;
      good = subst SoundPieces j m.good;
      start = st;
      place = m.place ∙ t1;
      finish = omega (arith, hd.place, m.place);
      fits = omega (arith, on.long, hd.place);
    }
