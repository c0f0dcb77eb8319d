-- Looks along a shelf: the first item that passes a test stands at the first place that does.
use Rattle.std.proofs.Common.{◌≡◌, ℕ, zero, suc, ◌≤◌, Bool, true, false, cond, ltb, List, length, is_some, Some, None, Option, sym, refl, ap, ◌∙◌, inl, inr, arith}
use Rattle.std.proofs.lemmas.Bool.{cases_Bool, cases_lt, lt-ltb, le-ltb}
use Rattle.std.specs.List.{find}
use Rattle.std.specs.Option.{option_map}
use Rattle.shelf.specs.Walk.{next, first_from, room, has_room, on_shelf}
use Rattle.shelf.specs.Standing.{item_at, items_from, items_along, place_of}
use Rattle.shelf.specs.declared.walk.Item.{Item}
use Rattle.shelf.proofs.Looks.{has_room_is}
use Rattle.shelf.proofs.Items.{place_of_item}

module _ (a : List ℕ) where
  -- a look for the first item that passes finds the first place that does
  pub find_from : (t : ℕ → Bool) (p : Item → Bool) → ((j : ℕ) → p (item_at a j) ≡ t j) → (f i : ℕ) → option_map place_of (find p (items_from f a i)) ≡ on_shelf a (first_from t f a i)
  unfolding items_from first_from
  find_from t p same zero i = rw (le-ltb (length a) (length a) (omega arith))
  find_from t p same (suc f) i = elim (cases_lt i (length a)) [
    | inr l ↦ rw (le-ltb i (length a) l, le-ltb (length a) (length a) (omega arith))
    | inl l ↦ elim (cases_Bool (t i)) [
      | inl b ↦ rw (lt-ltb i (length a) l, same i, b, lt-ltb i (length a) l) (ap Some (place_of_item a i))
      | inr b ↦ rw (lt-ltb i (length a) l, same i, b) (find_from t p same f (next a i))
    ]
  ]

  pub find_along : (t : ℕ → Bool) (p : Item → Bool) → ((j : ℕ) → p (item_at a j) ≡ t j) → option_map place_of (find p (items_along a 0)) ≡ on_shelf a (first_from t (length a) a 0)
  unfolding items_along
  find_along t p same = find_from t p same (length a) 0

  -- so does the place of the item that a look found
  pub place_found : (t : ℕ → Bool) (p : Item → Bool) → ((j : ℕ) → p (item_at a j) ≡ t j) → (r : Option Item) → option_map (λ x. x) r ≡ find p (items_along a 0) → option_map place_of r ≡ on_shelf a (first_from t (length a) a 0)
  place_found t p same None e = ap (option_map place_of) e ∙ find_along t p same
  place_found t p same (Some x) e = ap (option_map place_of) e ∙ find_along t p same

-- a place for a block is found just where there is room
pub room_test : (a : List ℕ) (n : ℕ) (r : Option ℕ) → r ≡ on_shelf a (room a n) → is_some r ≡ has_room (length a) a n 0
unfolding room
room_test a n r e = ap is_some e ∙ some (ltb (room a n) (length a)) ∙ sym (has_room_is (length a) a n 0)
  where
    some : (b : Bool) → is_some (cond b (Some (room a n)) None) ≡ b
    some true = refl
    some false = refl

-- where there is no such place on the shelf, it is the end
pub on_shelf_none : (a : List ℕ) (p : ℕ) → None ≡ on_shelf a p → length a ≤ p
on_shelf_none a p h = elim (cases_lt p (length a)) [ inl l ↦ absurd (never (rw (lt-ltb p (length a) l) at h)) | inr l ↦ l ]
  where
    never : {x : ℕ} → None ≡ Some x → ⊥
    never h = let z : ◌≡◌ {A = ℕ} 0 1 = cc in omega arith
