-- One step of each walk along a shelf, and of a loop that makes it.
use Rattle.std.proofs.Common.{◌≡◌, ℕ, zero, suc, ◌+◌, ◌<◌, ◌≤◌, Bool, true, false, ◌&&◌, eqb, ltb, List, [], ◌∷◌, length, get_or, Some, None, sym, refl, ap, ◌∙◌, arith}
use Rattle.std.proofs.lemmas.Bool.Decides.{nat_tests}
use Rattle.block.specs.Block.{long, size}
use Rattle.block.proofs.Blocks.{size_pos}
use Rattle.shelf.specs.Walk.{is_dead, next, first_from}
use Rattle.shelf.specs.Sound.{good_at, good_from, all_from, all_cells, sound_at, unsound_from}

-- the next place
pub next_dead : (a : List ℕ) (i : ℕ) → is_dead a i ≡ true → next a i ≡ i + 1
unfolding next
next_dead a i h = rw h

pub next_live : (a : List ℕ) (i : ℕ) → is_dead a i ≡ false → next a i ≡ i + size a i
unfolding next
next_live a i h = rw h

pub next_more : (a : List ℕ) (i : ℕ) → i < next a i
unfolding next
next_more a i = let p = size_pos (long a i) in grind (arith, nat_tests)

-- a function that at a place on the shelf only goes on gives at the next place, with the fuel left, what it gave here
pub onward : {X : Type 0} (F : ℕ → List ℕ → ℕ → X) (a : List ℕ) (i n f : ℕ) (t : X) → n ≡ next a i → i < length a → length a ≤ i + f → ((g : ℕ) → F (suc g) a i ≡ F g a (next a i)) → F f a i ≡ t → (g : ℕ) × (length a ≤ n + g) × (F g a n ≡ t)
onward F a i n zero t e h l on q = absurd (omega arith)
onward F a i n (suc g) t e h l on q = let m = next_more a i in (g, omega arith, ap (F g a) e ∙ sym (on g) ∙ q)

-- and one that stops there gives its answer
pub stops : {X : Type 0} (F : ℕ → List ℕ → ℕ → X) (a : List ℕ) (i f : ℕ) (t u : X) → i < length a → length a ≤ i + f → ((g : ℕ) → F (suc g) a i ≡ u) → F f a i ≡ t → u ≡ t
stops F a i zero t u h l on e = absurd (omega arith)
stops F a i (suc g) t u h l on e = sym (on g) ∙ e

module _ (a : List ℕ) (i : ℕ) where
  pub good_on : i < length a → good_at a i ≡ true → (g : ℕ) → good_from (suc g) a i ≡ good_from g a (next a i)
  unfolding good_from
  good_on h b g = grind (arith, nat_tests)

  pub good_end : length a ≤ i → (f : ℕ) → good_from f a i ≡ eqb i (length a)
  unfolding good_from
  good_end h zero = refl
  good_end h (suc g) = grind (arith, nat_tests)

  pub unsound_on : i < length a → sound_at a i ≡ true → (g : ℕ) → unsound_from (suc g) a i ≡ unsound_from g a (next a i)
  unfolding unsound_from
  unsound_on h b g = let l = lt_test h in rw (l, b)
    where
      lt_test : i < length a → ltb i (length a) ≡ true
      lt_test h = grind (arith, nat_tests)

  pub unsound_here : i < length a → sound_at a i ≡ false → (g : ℕ) → unsound_from (suc g) a i ≡ Some i
  unfolding unsound_from
  unsound_here h b g = grind (arith, nat_tests)

  pub unsound_end : length a ≤ i → (f : ℕ) → unsound_from f a i ≡ None
  unfolding unsound_from
  unsound_end h zero = refl
  unsound_end h (suc g) = grind (arith, nat_tests)

module _ (t : ℕ → Bool) (a : List ℕ) (i : ℕ) where
  pub first_on : i < length a → t i ≡ false → (g : ℕ) → first_from t (suc g) a i ≡ first_from t g a (next a i)
  unfolding first_from
  first_on h b g = grind (arith, nat_tests)

  pub first_here : i < length a → t i ≡ true → (g : ℕ) → first_from t (suc g) a i ≡ i
  unfolding first_from
  first_here h b g = grind (arith, nat_tests)

  pub first_end : length a ≤ i → (f : ℕ) → first_from t f a i ≡ length a
  unfolding first_from
  first_end h zero = refl
  first_end h (suc g) = grind (arith, nat_tests)

  pub all_on : i < length a → (g : ℕ) → all_from t (suc g) a i ≡ (t i && all_from t g a (next a i))
  unfolding all_from
  all_on h g = grind (arith, nat_tests)

  pub all_end : length a ≤ i → (f : ℕ) → all_from t f a i ≡ true
  unfolding all_from
  all_end h zero = refl
  all_end h (suc g) = grind (arith, nat_tests)

-- cells of 32 bits are cells
pub all_cells_from : (a : List ℕ) → ((i : ℕ) → get_or a i 0 < 4294967296) → all_cells a ≡ true
unfolding all_cells
all_cells_from [] h = refl
all_cells_from (x ∷ xs) h = let here = h 0 in let rest = all_cells_from xs (λ i. h (suc i)) in grind (arith, nat_tests)
