-- The first place at fault: there is one just where the shelf isn't sound. And three dead cells together are not sound.
use Rattle.std.proofs.Common.{◌≡◌, ℕ, zero, suc, ◌+◌, ◌<◌, ◌≤◌, Bool, true, false, not, ◌||◌, eqb, ltb, ◌⊎◌, List, length, is_some, Some, None, Option, sym, refl, ap, ◌∙◌, inl, inr, arith}
use Rattle.std.proofs.lemmas.Bool.{both_ways, false≢true, not-true, ltb-true, eq-eqb, lt-ltb, and_parts, and_from, or_cases, or_left, or_right, cases_Bool, cases_lt}
use Rattle.block.specs.Block.{in_use, whose, block, used}
use Rattle.block.proofs.Blocks.{parts}
use Rattle.shelf.specs.Walk.{is_dead, next, first_from, theirs, find}
use Rattle.shelf.specs.Sound.{good_at, tidy_at, once_at, good_from, all_from, all_cells, sound, met_before, sound_at, unsound_from, first_unsound}
use Rattle.shelf.specs.Laws.{FaultIsUnsound, ThreeDeadUnsound}
use Rattle.shelf.proofs.Along.{next_dead, next_more, good_on, good_end, all_on, all_end, unsound_on, unsound_here, unsound_end}
use Rattle.shelf.proofs.Pieces.{live}
use Rattle.shelf.proofs.Places as places
use Rattle.shelf.proofs.Places.{Good, good, Single, SoundPlaces, sound_places, everywhere, used_parts, used_from, within, next_block, finds, find_own}

-- gone along from a place, nothing is at fault
data Clean (a : List ℕ) : ℕ → Type 0 where
  done : {i : ℕ} → i ≡ length a → Clean a i
  more : {i : ℕ} → i < length a → sound_at a i ≡ true → Clean a (next a i) → Clean a i

-- what stands at a good place ends on the shelf
pub next_within : (a : List ℕ) (i : ℕ) → i < length a → good_at a i ≡ true → next a i ≤ length a
next_within a i l g = elim (or_cases _ _ g) [
  | inl d ↦ let n = next_dead a i d in omega arith
  | inr b ↦ let n = next_block a i b in let p = (parts a i b).fits in omega arith
]

clean : (a : List ℕ) (f i : ℕ) → length a ≤ i + f → i ≤ length a → unsound_from f a i ≡ None → Clean a i
clean a zero i m l h = done (omega arith)
clean a (suc f) i m l h = elim (cases_lt i (length a)) [
  | inr e ↦ done (omega arith)
  | inl e ↦ elim (cases_Bool (sound_at a i)) [
    | inr b ↦ absurd (some_none i (sym (unsound_here a i e b f) ∙ h))
    | inl b ↦
        let n = next_more a i in
        more e b (clean a f (next a i) (omega arith) (next_within a i e (and_parts _ _ b).0) (sym (unsound_on a i e b f) ∙ h))
  ]
]
  where
    some_none : (i : ℕ) → Some i ≡ None → ⊥
    some_none i e = let z : ◌≡◌ {A = ℕ} 0 1 = cc in omega arith

clean_good : (a : List ℕ) (f : ℕ) {i : ℕ} → Clean a i → length a ≤ i + f → good_from f a i ≡ true
clean_good a f {i} (done e) m = good_end a i (omega arith) f ∙ eq-eqb _ _ e
clean_good a zero (more l b c) m = absurd (omega arith)
clean_good a (suc f) {i} (more l b c) m = let n = next_more a i in good_on a i l (and_parts _ _ b).0 f ∙ clean_good a f c (omega arith)

-- a test that follows at each place where nothing is at fault
clean_all : (a : List ℕ) (t : ℕ → Bool) → ((i : ℕ) → i < length a → sound_at a i ≡ true → t i ≡ true) → (f : ℕ) {i : ℕ} → Clean a i → length a ≤ i + f → all_from t f a i ≡ true
clean_all a t h f {i} (done e) m = all_end t a i (omega arith) f
clean_all a t h zero (more l b c) m = absurd (omega arith)
clean_all a t h (suc f) {i} (more l b c) m = let n = next_more a i in all_on t a i l f ∙ and_from _ _ (h i l b) (clean_all a t h f c (omega arith))

module _ (a : List ℕ) (c : Clean a 0) where
  walk : Good a 0
  walk = good (length a) a 0 (clean_good a (length a) c (omega arith))

  -- no owner of a block in use was met before
  fresh : (q : ℕ) → used a q ≡ true → find a (whose a q) < q → ⊥
  fresh q u l =
      let b = (used_parts a q u).0 in
      let p = parts a q b in
      let s = everywhere a (sound_at a) (length a) walk (omega arith) (clean_all a (sound_at a) (λ i l h. h) (length a) c (omega arith)) q (omega arith) (within a q b) (let h = p.head in omega arith) in
      let m = (and_parts (tidy_at a q) _ (and_parts (good_at a q) _ s).1).1 in
      both_ways (met_before a q) (not-true _ m) (and_from _ _ (ap not (live a q b)) (and_from _ _ (used_parts a q u).1 (lt-ltb _ _ l)))

  single : (p q : ℕ) → used a p ≡ true → used a q ≡ true → p < q → whose a p ≡ whose a q → ⊥
  unfolding find
  single p q u v l w =
      let d = finds a (whose a q) (length a) walk (omega arith) in
      elim (cases_lt p (find a (whose a q))) [ inl e ↦ d.new p (omega arith) e u w | inr e ↦ fresh q v (omega arith) ]

  -- so nobody has another behind a place of the walk
  once_here : (f : ℕ) {i : ℕ} → Good a i → length a ≤ i + f → all_from (once_at a) f a i ≡ true
  once_here f {i} (places.end e) m = all_end (once_at a) a i (omega arith) f
  once_here zero (places.idle l d g) m = absurd (omega arith)
  once_here zero (places.full l b g) m = absurd (omega arith)
  once_here (suc f) {i} (places.idle l d g) m =
      let n = next_more a i in
      all_on (once_at a) a i l f ∙ and_from _ _ (or_left (is_dead a i) _ d) (once_here f g (omega arith))
  once_here (suc f) {i} (places.full l b g) m =
      let n = next_more a i in
      all_on (once_at a) a i l f ∙ and_from _ _ (or_right (is_dead a i) _ (alone (cases_Bool (in_use a i)))) (once_here f g (omega arith))
    where
      alone : (in_use a i ≡ true) ⊎ (in_use a i ≡ false) → (not (in_use a i) || eqb (first_from (theirs a (whose a i)) (length a) a (next a i)) (length a)) ≡ true
      alone (inr x) = or_left _ _ (ap not x)
      alone (inl x) =
          let d = finds a (whose a i) (length a) g (omega arith) in
          let n = next_more a i in
          let r = d.from in
          elim d.what [ inl e ↦ or_right _ _ (eq-eqb _ _ e) | inr e ↦ absurd (single i _ (used_from a i b x) e.1 (omega arith) (sym e.2)) ]

  clean_sound : all_cells a ≡ true → sound a ≡ true
  unfolding sound
  clean_sound h =
      and_from _ _ h (and_from _ _ (clean_good a (length a) c (omega arith))
      (and_from _ _ (clean_all a (tidy_at a) (λ i l b. (and_parts (tidy_at a i) _ (and_parts (good_at a i) _ b).1).0) (length a) c (omega arith)) (once_here (length a) walk (omega arith))))

-- and on a sound shelf nothing is at fault
sound_here : (a : List ℕ) → SoundPlaces a → (i : ℕ) → good_at a i ≡ true → tidy_at a i ≡ true → sound_at a i ≡ true
sound_here a s i g t = and_from _ _ g (and_from _ _ t (ap not (unmet (cases_Bool (met_before a i)))))
  where
    unmet : (met_before a i ≡ true) ⊎ (met_before a i ≡ false) → met_before a i ≡ false
    unmet (inr x) = x
    unmet (inl x) =
        let p = and_parts (not (is_dead a i)) _ x in
        let q = and_parts (in_use a i) _ p.1 in
        let b : block a i ≡ true = elim (or_cases _ _ g) [ inl d ↦ absurd (both_ways _ (not-true _ p.0) d) | inr b ↦ b ] in
        let e = find_own a i s (used_from a i b q.0) in
        let l = ltb-true _ _ q.1 in
        absurd (omega arith)

none_at_fault : (a : List ℕ) → SoundPlaces a → (f : ℕ) {i : ℕ} → Good a i → length a ≤ i + f → all_from (tidy_at a) f a i ≡ true → unsound_from f a i ≡ None
none_at_fault a s f {i} (places.end e) m t = unsound_end a i (omega arith) f
none_at_fault a s zero (places.idle l d g) m t = absurd (omega arith)
none_at_fault a s zero (places.full l b g) m t = absurd (omega arith)
none_at_fault a s (suc f) {i} (places.idle l d g) m t =
    let n = next_more a i in
    let q = and_parts (tidy_at a i) _ (sym (all_on (tidy_at a) a i l f) ∙ t) in
    unsound_on a i l (sound_here a s i (or_left _ _ d) q.0) f ∙ none_at_fault a s f g (omega arith) q.1
none_at_fault a s (suc f) {i} (places.full l b g) m t =
    let n = next_more a i in
    let q = and_parts (tidy_at a i) _ (sym (all_on (tidy_at a) a i l f) ∙ t) in
    unsound_on a i l (sound_here a s i (or_right _ _ b) q.0) f ∙ none_at_fault a s f g (omega arith) q.1

pub sound_tidy : (a : List ℕ) → sound a ≡ true → all_from (tidy_at a) (length a) a 0 ≡ true
unfolding sound
sound_tidy a h = (and_parts _ _ (and_parts (good_from (length a) a 0) _ (and_parts (all_cells a) _ h).1).1).0

pub sound_none : (a : List ℕ) → sound a ≡ true → first_unsound a ≡ None
unfolding first_unsound
sound_none a h = let s = sound_places a h in none_at_fault a s (length a) s.walk (omega arith) (sound_tidy a h)

pub none_sound : (a : List ℕ) → all_cells a ≡ true → first_unsound a ≡ None → sound a ≡ true
unfolding first_unsound
none_sound a h e = clean_sound a (clean a (length a) 0 (omega arith) (omega arith) e) h

pub fault_is_unsound : FaultIsUnsound
fault_is_unsound a h = elim (cases_Bool (sound a)) [
  | inl s ↦ rw (s, sound_none a s)
  | inr s ↦ rw s (some s (first_unsound a) refl)
]
  where
    some : sound a ≡ false → (o : Option ℕ) → first_unsound a ≡ o → is_some (first_unsound a) ≡ true
    some s None e = absurd (both_ways (sound a) s (none_sound a h e))
    some s (Some i) e = ap is_some e

pub three_dead_unsound : ThreeDeadUnsound
three_dead_unsound a i l d e g = elim (cases_Bool (sound a)) [
  | inr s ↦ s
  | inl s ↦
      let w = (sound_places a s).walk in
      let t = everywhere a (tidy_at a) (length a) w (omega arith) (sound_tidy a s) i (omega arith) (omega arith) (omega arith) in
      let x : is_dead a i ≡ true = eq-eqb _ _ d in
      let y : is_dead a (i + 1) ≡ true = eq-eqb _ _ e in
      let z : is_dead a (i + 2) ≡ true = eq-eqb _ _ g in
      let u : ltb (i + 1) (length a) ≡ true = lt-ltb _ _ (omega arith) in
      let v : ltb (i + 2) (length a) ≡ true = lt-ltb _ _ (omega arith) in
      absurd (false≢true (rw (x, y, z, u, v) at t))
]
