-- The looks for idle things are folds over what stands along the shelf.
use Rattle.std.proofs.Common.{◌≡◌, ℕ, zero, suc, ◌+◌, ◌^◌, ◌<◌, ◌≤◌, Bool, true, false, cond, not, List, [], ◌∷◌, length, nat_lt, sym, refl, ap, ◌∙◌, inl, inr, arith}
use Rattle.std.proofs.lemmas.Bool.{cases_Bool, cases_lt, lt-ltb, le-ltb}
use Rattle.std.specs.List.{fold, filter, take_while, prefix_len}
use Rattle.block.specs.Block.{at}
use Rattle.shelf.specs.Walk.{next}
use Rattle.shelf.specs.Sound.{idle}
use Rattle.shelf.specs.Standing.{item_at, items_from, items_along, place_of, end_of, is_idle}
use Rattle.shelf.specs.declared.walk.Item.{Item}
use Rattle.shelf.proofs.Items.{end_of_item, is_idle_item, place_of_item}
use Rattle.requests.specs.Plans.{idle_start, idle_end}
use Rattle.requests.proofs.Around.{start_on, start_stop, end_on, end_stop, idle_inside}

-- the place behind an item
abbrev pub behind : ℕ → Item → ℕ
behind n x = end_of x

abbrev pub is_busy : Item → Bool
is_busy x = not (is_idle x)

abbrev behind_busy : ℕ → Item → ℕ
behind_busy n x = cond (is_idle x) n (end_of x)

one_by_one : (n : ℕ) (xs : List Item) → fold behind n (filter is_busy xs) ≡ fold behind_busy n xs
one_by_one n [] = refl
one_by_one n (x ∷ xs) = elim (cases_Bool (is_idle x)) [
  | inl h ↦ rw h (one_by_one n xs)
  | inr h ↦ rw h (one_by_one (end_of x) xs)
]

while_more : (p : Item → Bool) (x : Item) (xs : List Item) → p x ≡ true → take_while p (x ∷ xs) ≡ x ∷ take_while p xs
while_more p x xs h = let e : 1 + prefix_len p xs ≡ suc (prefix_len p xs) = omega arith in rw (h, e) refl

while_done : (p : Item → Bool) (x : Item) (xs : List Item) → p x ≡ false → take_while p (x ∷ xs) ≡ []
while_done p x xs h = rw h refl

module _ (a : List ℕ) (short : length a < 2 ^ 63) (cells : (i : ℕ) → at a i < 2 ^ 32) where
  more : (f i : ℕ) → i < length a → items_from (suc f) a i ≡ item_at a i ∷ items_from f a (next a i)
  unfolding items_from
  more f i h = rw (lt-ltb i (length a) h)

  none : (f i : ℕ) → length a ≤ i → items_from f a i ≡ []
  unfolding items_from
  none zero i h = refl
  none (suc f) i h = rw (le-ltb i (length a) h)

  -- where the first thing from a place on doesn't pass, or there is none, nothing is taken
  stopped : (p : Item → Bool) (f i : ℕ) → (i < length a → p (item_at a i) ≡ false) → take_while p (items_from f a i) ≡ []
  unfolding items_from
  stopped p zero i h = refl
  stopped p (suc f) i h = elim (cases_lt i (length a)) [
    | inl l ↦ ap (take_while p) (more f i l) ∙ while_done p (item_at a i) (items_from f a (next a i)) (h l)
    | inr l ↦ ap (take_while p) (none (suc f) i l)
  ]

  start_fold : (f i from p : ℕ) → p ≤ length a → fold behind_busy from (take_while (λ x. nat_lt (place_of x) p) (items_from f a i)) ≡ idle_start f a p i from
  unfolding items_from idle_start
  start_fold zero i from p l = refl
  start_fold (suc f) i from p l = elim (cases_lt i p) [
    | inl h ↦
        let m : i < length a = omega arith in
        let q : Item → Bool = λ x. nat_lt (place_of x) p in
        let rest : List Item = items_from f a (next a i) in
        let passes : nat_lt (place_of (item_at a i)) p ≡ true = ap (λ n. nat_lt n p) (place_of_item a i) ∙ lt-ltb i p h in
        ap (λ xs. fold behind_busy from (take_while q xs)) (more f i m)
        ∙ ap (fold behind_busy from) (while_more q (item_at a i) rest passes)
        ∙ (λ j. fold behind_busy (cond (is_idle_item a i m j) from (end_of_item a i m short (cells i) j)) (take_while q rest))
        ∙ start_fold f (next a i) (cond (idle a i) from (next a i)) p l
        ∙ sym (start_on a p i from h f)
    | inr h ↦
        ap (fold behind_busy from) (stopped (λ x. nat_lt (place_of x) p) (suc f) i (λ m. ap (λ n. nat_lt n p) (place_of_item a i) ∙ le-ltb i p h))
        ∙ sym (start_stop a p i from (suc f) h)
  ]

  end_fold : (f i : ℕ) → fold behind i (take_while is_idle (items_from f a i)) ≡ idle_end f a i
  unfolding items_from idle_end
  end_fold zero i = refl
  end_fold (suc f) i = elim (cases_Bool (idle a i)) [
    | inl h ↦
        let m = idle_inside a i h in
        let rest : List Item = items_from f a (next a i) in
        ap (λ xs. fold behind i (take_while is_idle xs)) (more f i m)
        ∙ ap (fold behind i) (while_more is_idle (item_at a i) rest (is_idle_item a i m ∙ h))
        ∙ ap (λ n. fold behind n (take_while is_idle rest)) (end_of_item a i m short (cells i))
        ∙ end_fold f (next a i)
        ∙ sym (end_on a i h f)
    | inr h ↦ ap (fold behind i) (stopped is_idle (suc f) i (λ m. is_idle_item a i m ∙ h)) ∙ sym (end_stop a i h (suc f))
  ]

  -- over all that stands from a place on
  pub start_along : (p : ℕ) → p ≤ length a → fold behind 0 (filter is_busy (take_while (λ x. nat_lt (place_of x) p) (items_along a 0))) ≡ idle_start (length a) a p 0 0
  unfolding items_along
  start_along p l = one_by_one 0 (take_while (λ x. nat_lt (place_of x) p) (items_from (length a) a 0)) ∙ start_fold (length a) 0 0 p l

  pub end_along : (i : ℕ) → fold behind i (take_while is_idle (items_along a i)) ≡ idle_end (length a) a i
  unfolding items_along
  end_along i = end_fold (length a) i
