-- What stands along a shelf as a list: its first item and the others, and what a look through it finds.
use Rattle.std.proofs.Common.{◌≡◌, ℕ, zero, suc, ◌+◌, ◌^◌, ◌<◌, ◌≤◌, true, false, not, List, [], ◌∷◌, length, Some, None, sym, refl, ap, ◌∙◌, subst, inl, inr, arith}
use Rattle.std.proofs.lemmas.Bool.{cases_Bool, cases_lt, lt-ltb, le-ltb}
use Rattle.std.proofs.lemmas.Iterator.{YieldsList}
use Rattle.std.proofs.lemmas.Iterator.Consumers.{YieldsList-from_shown}
use Rattle.block.specs.Cell.{row_length}
use Rattle.block.specs.Block.{at, in_use, whose, size_for}
use Rattle.shelf.specs.Walk.{is_dead, next, theirs, roomy}
use Rattle.shelf.specs.Sound.{idle, tidy_at}
use Rattle.shelf.specs.Standing.{item_at, said, gone, items_from, items_along, Steps, place_of, end_of, is_idle, is_of, has_room_for}
use Rattle.shelf.specs.declared.walk.Walk.{Walk}
use Rattle.shelf.specs.declared.walk.Item.{Item}
use Rattle.shelf.specs.declared.walk.Item.TheVariants.{Dead, Free, InUse}
use Rattle.shelf.proofs.Along.{next_more}

-- the tests of what a walk hands out
pub is_of_item : (a : List ℕ) (w i : ℕ) → is_of w (item_at a i) ≡ theirs a w i
is_of_item a w i = elim (cases_Bool (is_dead a i)) [ inl d ↦ rw d | inr d ↦ elim (cases_Bool (in_use a i)) [ inl u ↦ rw (d, u) | inr u ↦ rw (d, u) ] ]

pub has_room_for_item : (a : List ℕ) (n i : ℕ) → has_room_for n (item_at a i) ≡ roomy a n i
has_room_for_item a n i = elim (cases_Bool (is_dead a i)) [ inl d ↦ rw d | inr d ↦ elim (cases_Bool (in_use a i)) [ inl u ↦ rw (d, u) | inr u ↦ rw (d, u) ] ]

pub place_of_item : (a : List ℕ) (i : ℕ) → place_of (item_at a i) ≡ i
place_of_item a i = elim (cases_Bool (is_dead a i)) [ inl d ↦ rw d | inr d ↦ elim (cases_Bool (in_use a i)) [ inl u ↦ rw (d, u) | inr u ↦ rw (d, u) ] ]

module _ (a : List ℕ) where
  -- at a place on the shelf something stands, and past the end nothing does
  more : (f i : ℕ) → i < length a → items_from (suc f) a i ≡ item_at a i ∷ items_from f a (next a i)
  unfolding items_from
  more f i h = rw (lt-ltb i (length a) h)

  none : (f i : ℕ) → length a ≤ i → items_from f a i ≡ []
  unfolding items_from
  none zero i h = refl
  none (suc f) i h = rw (le-ltb i (length a) h)

  -- as many steps as there are cells left are enough
  enough : (f g i : ℕ) → length a ≤ i + f → length a ≤ i + g → items_from f a i ≡ items_from g a i
  enough zero g i h k = none zero i (omega arith) ∙ sym (none g i (omega arith))
  enough (suc f) zero i h k = none (suc f) i (omega arith) ∙ sym (none zero i (omega arith))
  enough (suc f) (suc g) i h k = elim (cases_lt i (length a)) [
    | inr l ↦ none (suc f) i l ∙ sym (none (suc g) i l)
    | inl l ↦
        let n = next_more a i in
        more f i l ∙ ap (λ xs. item_at a i ∷ xs) (enough f g (next a i) (omega arith) (omega arith)) ∙ sym (more g i l)
  ]

  pub items_more : (i : ℕ) → i < length a → items_along a i ≡ item_at a i ∷ items_along a (next a i)
  unfolding items_along
  items_more i h =
      let n = next_more a i in
      enough (length a) (suc (length a)) i (omega arith) (omega arith) ∙ more (length a) i h

  pub items_none : (i : ℕ) → length a ≤ i → items_along a i ≡ []
  unfolding items_along
  items_none i h = none (length a) i h

  -- where there is an item, its place, its end and whether it is free are what the cells tell
  pub end_of_item : (i : ℕ) → i < length a → length a < 2 ^ 63 → at a i < 2 ^ 32 → end_of (item_at a i) ≡ next a i
  unfolding next size_for row_length
  end_of_item i l m w = elim (cases_Bool (is_dead a i)) [
    | inl d ↦ rw d (omega arith)
    | inr d ↦ elim (cases_Bool (in_use a i)) [ inl u ↦ rw (d, u) (omega arith) | inr u ↦ rw (d, u) (omega arith) ]
  ]

  pub is_idle_item : (i : ℕ) → i < length a → is_idle (item_at a i) ≡ idle a i
  is_idle_item i l = elim (cases_Bool (is_dead a i)) [
    | inl d ↦ rw (d, lt-ltb i (length a) l)
    | inr d ↦ elim (cases_Bool (in_use a i)) [ inl u ↦ rw (d, u, lt-ltb i (length a) l) | inr u ↦ rw (d, u, lt-ltb i (length a) l) ]
  ]

  -- a step of a walk, which goes on to the place behind what it says
  pub said_inside : (i : ℕ) (x : Item) → Some x ≡ said a i → (i < length a) × (x ≡ item_at a i)
  said_inside i x h = elim (cases_lt i (length a)) [
    | inl l ↦ (l, some_same (rw (lt-ltb i (length a) l) at h))
    | inr l ↦ absurd (never (rw (le-ltb i (length a) l) at h))
  ]
    where
      some_same : {x y : Item} → Some x ≡ Some y → x ≡ y
      some_same h = cc

      never : {x : Item} → Some x ≡ None → ⊥
      never h = cc

  -- what stands where a block is said to be
  pub in_use_there : (p w n : ℕ) → Some (InUse p w n) ≡ said a p → (p < length a) × (is_dead a p ≡ false) × (in_use a p ≡ true) × (whose a p ≡ w)
  in_use_there p w n h =
      let s = said_inside p (InUse p w n) h in
      elim (cases_Bool (is_dead a p)) [
        | inl d ↦ absurd (not_dead (rw d at s.1))
        | inr d ↦ elim (cases_Bool (in_use a p)) [ inl u ↦ (s.0, d, u, same_owner (rw (d, u) at s.1)) | inr u ↦ absurd (not_free (rw (d, u) at s.1)) ]
      ]
    where
      not_dead : {p w n q : ℕ} → InUse p w n ≡ Dead q → ⊥
      not_dead e = cc

      not_free : {p w n q m : ℕ} → InUse p w n ≡ Free q m → ⊥
      not_free e = cc

      same_owner : {p w n q v m : ℕ} → InUse p w n ≡ InUse q v m → v ≡ w
      same_owner e = cc

  pub free_there : (p n : ℕ) → Some (Free p n) ≡ said a p → (is_dead a p ≡ false) × (in_use a p ≡ false)
  free_there p n h =
      let s = said_inside p (Free p n) h in
      elim (cases_Bool (is_dead a p)) [
        | inl d ↦ absurd (not_dead (rw d at s.1))
        | inr d ↦ elim (cases_Bool (in_use a p)) [ inl u ↦ absurd (not_used (rw (d, u) at s.1)) | inr u ↦ (d, u) ]
      ]
    where
      not_dead : {p n q : ℕ} → Free p n ≡ Dead q → ⊥
      not_dead e = cc

      not_used : {p n q v m : ℕ} → Free p n ≡ InUse q v m → ⊥
      not_used e = cc

  -- what is free may stand before what isn't
  pub tidy_free : (p : ℕ) → is_dead a p ≡ false → in_use a p ≡ false → not (idle a (next a p)) ≡ tidy_at a p
  tidy_free p d u = rw (d, u)

  pub ended : (i : ℕ) → None ≡ said a i → length a ≤ i
  ended i h = elim (cases_lt i (length a)) [ inl l ↦ absurd (never (rw (lt-ltb i (length a) l) at h)) | inr l ↦ l ]
    where
      never : {x : Item} → None ≡ Some x → ⊥
      never h = cc

-- what a walk has yet to say, and that it says it
abbrev items_left : Walk → List Item
items_left w = items_along w.shelf.now w.at

says_first : (s : Walk) (x : Item) (t : Walk) → Steps s (Some x) t → items_left s ≡ x ∷ items_left t
says_first s x t h =
    let a = s.shelf.now in
    let q = said_inside a s.at x h.item in
    let n : t.at ≡ next a s.at = h.at ∙ rw (lt-ltb s.at (length a) q.0) in
    rw (h.shelf, n, q.1) (items_more a s.at q.0)

-- a step of a walk over a shelf that says something
pub record Stepped (a : List ℕ) (i : ℕ) (x : Item) (t : Walk) : Type 0 where
  pub inside : i < length a
  pub item_is : x ≡ item_at a i
  pub place_is : place_of x ≡ i
  pub stands : Some x ≡ said a (place_of x)
  pub onto : t.at ≡ next a i
  pub same : t.shelf.now ≡ a

pub stepped : (a : List ℕ) (s : Walk) (x : Item) (t : Walk) → s.shelf.now ≡ a → Steps s (Some x) t → Stepped a s.at x t
stepped a s x t e h =
    let i = s.at in
    let said_here : Some x ≡ said a i = h.item ∙ ap (λ b. said b i) e in
    let q = said_inside a i x said_here in
    let p : place_of x ≡ i = ap place_of q.1 ∙ place_of_item a i in
    record {
      inside = q.0;
      item_is = q.1;
      place_is = p;
      stands = rw p said_here;
      onto = h.at ∙ ap (λ b. gone b i) e ∙ rw (lt-ltb i (length a) q.0);
      same = h.shelf ∙ e;
    }

pub stopped : (a : List ℕ) (s t : Walk) → s.shelf.now ≡ a → Steps s None t → length a ≤ s.at
stopped a s t e h = ended a s.at (h.item ∙ ap (λ b. said b s.at) e)

pub walk_gives : {w : Walk} (a : List ℕ) (i : ℕ) → w.shelf.now ≡ a → w.at ≡ i → YieldsList Steps (λ x. x) w (items_along a i)
walk_gives {w} a i e h =
    subst (YieldsList Steps (λ x. x) w) (λ k. items_along (e k) (h k))
    (YieldsList-from_shown Steps (λ x. x) items_left (λ s t g. ap length (items_none s.shelf.now s.at (ended s.shelf.now s.at g.item))) says_first w)
