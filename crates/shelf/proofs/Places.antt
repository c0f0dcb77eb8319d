-- A sound shelf by its places: the walk meets every head, and somebody's block is the one block in use that is theirs.
use Rattle.std.proofs.Common.{◌≡◌, ℕ, zero, suc, ◌+◌, ◌<◌, ◌≤◌, Bool, true, ◌&&◌, eqb, ltb, ◌⊎◌, List, length, sym, refl, ap, ◌∙◌, inl, inr, arith}
use Rattle.std.proofs.lemmas.List.{get_or_past}
use Rattle.std.proofs.lemmas.Bool.{both_ways, ltb-true, eqb-true, eq-eqb, and_parts, cases_Bool, and_from, or_cases, cases_lt, cases_order}
use Rattle.block.specs.Cell.{mark, dead, limit}
use Rattle.block.specs.Block.{at, is_head, long, in_use, whose, size, block, used}
use Rattle.block.proofs.Cells.{is_first_parts}
use Rattle.block.proofs.Blocks.{parts, size_pos, tail, never_overlap}
use Rattle.shelf.specs.Walk.{is_dead, next, first_from, theirs, find}
use Rattle.shelf.specs.Sound.{good_at, tidy_at, once_at, good_from, all_from, all_cells, sound}
use Rattle.shelf.specs.Laws.{Place, start, onward, HeadsArePlaces, NobodyHasTwo, NoSharing}
use Rattle.shelf.proofs.Along.{next_dead, next_live, next_more, first_on, first_here, first_end, all_on}
use Rattle.shelf.proofs.Pieces.{live}

-- two numbers, neither below the other
pub same : (p q : ℕ) → p ≤ q → q ≤ p → p ≡ q
same p q h k = omega arith

pub used_parts : (a : List ℕ) (i : ℕ) → used a i ≡ true → (block a i ≡ true) × (in_use a i ≡ true)
unfolding used
used_parts a i h = and_parts _ _ h

pub used_from : (a : List ℕ) (i : ℕ) → block a i ≡ true → in_use a i ≡ true → used a i ≡ true
unfolding used
used_from a i b u = and_from _ _ b u

pub within : (a : List ℕ) (i : ℕ) → block a i ≡ true → i < length a
within a i h = let p = (parts a i h).fits in let s = size_pos (long a i) in omega arith

pub next_block : (a : List ℕ) (i : ℕ) → block a i ≡ true → next a i ≡ i + size a i
next_block a i b = next_live a i (live a i b)

-- blocks and dead cells stand from a place up to the end
pub data Good (a : List ℕ) : ℕ → Type 0 where
  end : {i : ℕ} → i ≡ length a → Good a i
  idle : {i : ℕ} → i < length a → is_dead a i ≡ true → Good a (next a i) → Good a i
  full : {i : ℕ} → i < length a → block a i ≡ true → Good a (next a i) → Good a i

pub good : (f : ℕ) (a : List ℕ) (i : ℕ) → good_from f a i ≡ true → Good a i
unfolding good_from
good zero a i h = end (eqb-true _ _ h)
good (suc f) a i h = elim (or_cases _ _ h) [
  | inl e ↦ end (eqb-true _ _ e)
  | inr e ↦
      let p = and_parts (ltb i (length a)) _ e in
      let q = and_parts (good_at a i) _ p.1 in
      let g = good f a (next a i) q.1 in
      elim (or_cases _ _ q.0) [ inl d ↦ idle (ltb-true _ _ p.0) d g | inr b ↦ full (ltb-true _ _ p.0) b g ]
]

-- no head stands between a place of the walk and the next
head_is : (a : List ℕ) (j : ℕ) → is_head a j ≡ true → (mark ≤ at a j) × (at a j < dead)
head_is a j h = is_first_parts (at a j) h

pub over_dead : (a : List ℕ) (i j : ℕ) → is_dead a i ≡ true → i ≤ j → is_head a j ≡ true → next a i ≤ j
over_dead a i j d l h =
    let n = next_dead a i d in
    let p = head_is a j h in
    let e : at a i ≡ dead = eqb-true _ _ d in
    let ne : j ≡ i → ⊥ = λ s. let f : at a j ≡ dead = ap (at a) s ∙ e in omega arith in
    omega arith

pub over_block : (a : List ℕ) (i j : ℕ) → block a i ≡ true → i < j → is_head a j ≡ true → next a i ≤ j
over_block a i j b l h =
    let n = next_block a i b in
    let p = head_is a j h in
    elim (cases_lt j (i + size a i)) [ inl c ↦ let t = tail a i j b l c in absurd (omega arith) | inr c ↦ omega arith ]

-- a head at or behind a place of the walk is one too, and a block stands there
pub reached : (a : List ℕ) {i : ℕ} (j : ℕ) → Good a i → Place a i → i ≤ j → j < length a → is_head a j ≡ true → Place a j × (block a j ≡ true)
reached a j (end e) p l m h = absurd (omega arith)
reached a {i} j (idle k d g) p l m h = reached a j g (onward p k) (over_dead a i j d l h) m h
reached a {i} j (full k b g) p l m h = elim (cases_lt i j) [
  | inl c ↦ reached a j g (onward p k) (over_block a i j b c h) m h
  | inr c ↦ let e = same i j l c in (rw e at p, rw e at b)
]

pub block_head : (a : List ℕ) (j : ℕ) → block a j ≡ true → is_head a j ≡ true
unfolding block
block_head a j b = (and_parts _ _ b).0

-- a test that holds at every place of the walk holds wherever a cell is no small one: inside a block all are small
pub everywhere : (a : List ℕ) (t : ℕ → Bool) (f : ℕ) {i : ℕ} → Good a i → length a ≤ i + f → all_from t f a i ≡ true → (j : ℕ) → i ≤ j → j < length a → limit ≤ at a j → t j ≡ true
everywhere a t f (end e) m o j l k h = absurd (omega arith)
everywhere a t zero (idle c d g) m o j l k h = absurd (omega arith)
everywhere a t zero (full c b g) m o j l k h = absurd (omega arith)
everywhere a t (suc f) {i} (idle c d g) m o j l k h =
    let s = and_parts (t i) _ (sym (all_on t a i c f) ∙ o) in
    let n = next_dead a i d in
    elim (cases_lt i j) [ inl x ↦ everywhere a t f g (omega arith) s.1 j (omega arith) k h | inr x ↦ rw (same j i x l) s.0 ]
everywhere a t (suc f) {i} (full c b g) m o j l k h =
    let s = and_parts (t i) _ (sym (all_on t a i c f) ∙ o) in
    let n = next_block a i b in
    let p = size_pos (long a i) in
    elim (cases_lt i j) [
      | inr x ↦ rw (same j i x l) s.0
      | inl x ↦ elim (cases_lt j (i + size a i)) [
        | inl y ↦ let z = tail a i j b x y in absurd (omega arith)
        | inr y ↦ everywhere a t f g (omega arith) s.1 j (omega arith) k h
      ]
    ]

-- r is the first place from i on of a block in use that is w's, or the end
pub record Finds (a : List ℕ) (w i r : ℕ) : Type 0 where
  pub from : i ≤ r
  pub what : (r ≡ length a) ⊎ ((r < length a) × (used a r ≡ true) × (whose a r ≡ w))
  pub new : (j : ℕ) → i ≤ j → j < r → used a j ≡ true → whose a j ≡ w → ⊥

go_on : (a : List ℕ) (w i m r : ℕ) → i ≤ m → ((j : ℕ) → i ≤ j → used a j ≡ true → whose a j ≡ w → m ≤ j) → Finds a w m r → Finds a w i r
go_on a w i m r h over d =
    let f = d.from in
    record { from = omega arith; what = d.what; new = λ j l k u e. d.new j (over j l u e) k u e }

at_end : (a : List ℕ) (w i r : ℕ) → i ≡ length a → r ≡ length a → Finds a w i r
at_end a w i r e h = record { from = omega arith; what = inl h; new = λ j l k u d. omega arith }

used_head : (a : List ℕ) (j : ℕ) → used a j ≡ true → is_head a j ≡ true
used_head a j u = block_head a j (used_parts a j u).0

pub finds : (a : List ℕ) (w f : ℕ) {i : ℕ} → Good a i → length a ≤ i + f → Finds a w i (first_from (theirs a w) f a i)
finds a w f {i} (end e) m = at_end a w i _ e (first_end (theirs a w) a i (omega arith) f)
finds a w zero (idle l d g) m = let z : ⊥ = omega arith in absurd z
finds a w zero (full l b g) m = let z : ⊥ = omega arith in absurd z
finds a w (suc f) {i} (idle l d g) m =
    let n = next_more a i in
    rw (first_on (theirs a w) a i l (rw d) f) (go_on a w i (next a i) _ (omega arith) (λ j h u e. over_dead a i j d h (used_head a j u)) (finds a w f g (omega arith)))
finds a w (suc f) {i} (full l b g) m =
    let n = next_more a i in
    elim (cases_Bool (in_use a i && eqb (whose a i) w)) [
      | inl t ↦
          let q = and_parts (in_use a i) _ t in
          rw (first_here (theirs a w) a i l (rw (live a i b) t) f) (record {
            from = omega arith;
            what = inr (l, used_from a i b q.0, eqb-true _ _ q.1);
            new = λ j h k u e. omega arith;
          })
      | inr t ↦
          rw (first_on (theirs a w) a i l (rw (live a i b) t) f) (go_on a w i (next a i) _ (omega arith) (λ j h u e. elim (cases_lt i j) [
            | inl k ↦ over_block a i j b k (used_head a j u)
            | inr k ↦ let s = same j i k h in absurd (both_ways _ t (and_from _ _ (used_parts a i (rw s at u)).1 (eq-eqb _ _ (rw s at e))))
          ]) (finds a w f g (omega arith)))
    ]

-- nobody has two from a place on
abbrev pub Single : List ℕ → ℕ → Type 0
Single a i = (p q : ℕ) → i ≤ p → used a p ≡ true → used a q ≡ true → p < q → whose a p ≡ whose a q → ⊥

once_more : (a : List ℕ) (i : ℕ) → block a i ≡ true → Good a (next a i) → once_at a i ≡ true → in_use a i ≡ true → (q : ℕ) → i < q → used a q ≡ true → whose a i ≡ whose a q → ⊥
once_more a i b g o u q l v w =
    let t = rw (live a i b, u) at o in
    let r = eqb-true _ _ t in
    let lq = within a q (used_parts a q v).0 in
    let d = finds a (whose a i) (length a) g (omega arith) in
    d.new q (over_block a i q b l (used_head a q v)) (omega arith) v (sym w)

pub once_single : (a : List ℕ) (f : ℕ) {i : ℕ} → Good a i → length a ≤ i + f → all_from (once_at a) f a i ≡ true → Single a i
once_single a f (end e) m o p q h u v l w = let k = within a p (used_parts a p u).0 in omega arith
once_single a zero (idle k d g) m o p q h u v l w = omega arith
once_single a zero (full k b g) m o p q h u v l w = omega arith
once_single a (suc f) {i} (idle k d g) m o p q h u v l w =
    let n = next_more a i in
    let s = and_parts (once_at a i) _ (sym (all_on (once_at a) a i k f) ∙ o) in
    once_single a f g (omega arith) s.1 p q (over_dead a i p d h (used_head a p u)) u v l w
once_single a (suc f) {i} (full k b g) m o p q h u v l w =
    let n = next_more a i in
    let s = and_parts (once_at a i) _ (sym (all_on (once_at a) a i k f) ∙ o) in
    elim (cases_lt i p) [
      | inl c ↦ once_single a f g (omega arith) s.1 p q (over_block a i p b c (used_head a p u)) u v l w
      | inr c ↦ let e = same p i c h in once_more a i b g s.0 (rw e at (used_parts a p u).1) q (omega arith) v (rw e at w)
    ]

-- what a sound shelf has at its places
pub record SoundPlaces (a : List ℕ) : Type 0 where
  pub walk : Good a 0
  pub finding : (w : ℕ) → Finds a w 0 (find a w)
  pub single : Single a 0

pub sound_places : (a : List ℕ) → sound a ≡ true → SoundPlaces a
unfolding sound find
sound_places a h =
    let p = and_parts (all_cells a) _ h in
    let q = and_parts (good_from (length a) a 0) _ p.1 in
    let r = and_parts (all_from (tidy_at a) (length a) a 0) _ q.1 in
    let g = good (length a) a 0 q.0 in
    record { walk = g; finding = λ w. finds a w (length a) g (omega arith); single = once_single a (length a) g (omega arith) r.1 }

-- the laws
pub heads_are_places : HeadsArePlaces
heads_are_places a i h k =
    let s = sound_places a h in
    let p = head_is a i k in
    let on : i < length a = elim (cases_lt i (length a)) [ inl l ↦ l | inr l ↦ let z = get_or_past a i 0 l in absurd (omega arith) ] in
    reached a i s.walk start (omega arith) on k

pub find_used : (a : List ℕ) (w : ℕ) → SoundPlaces a → find a w < length a → (used a (find a w) ≡ true) × (whose a (find a w) ≡ w)
find_used a w s l = elim (s.finding w).what [ inl k ↦ let z : ⊥ = omega arith in absurd z | inr k ↦ (k.1, k.2) ]

pub find_own : (a : List ℕ) (j : ℕ) → SoundPlaces a → used a j ≡ true → find a (whose a j) ≡ j
find_own a j s u =
    let d = s.finding (whose a j) in
    let l = within a j (used_parts a j u).0 in
    elim (cases_order (find a (whose a j)) j) [
      | inl e ↦ e
      | inr (inr e) ↦ absurd (d.new j (omega arith) e u refl)
      | inr (inl e) ↦ elim d.what [ inl k ↦ omega arith | inr k ↦ absurd (s.single _ j (omega arith) k.1 u e k.2) ]
    ]

pub nobody_has_two : NobodyHasTwo
nobody_has_two a h = let s = sound_places a h in record { stands = λ w l. find_used a w s l; own = λ i u. find_own a i s u }

pub no_sharing : NoSharing
no_sharing a v w h l k =
    let s = sound_places a h in
    let p = (find_used a v s (omega arith)).0 in
    let q = (find_used a w s k).0 in
    never_overlap a _ _ (used_parts a _ p).0 (used_parts a _ q).0 l
