-- A shelf mended, cell by cell, and when mending is refused. Assumes nothing: these are definitions.
use Rattle.std.specs.Prelude.{◌≡◌, ℕ, zero, suc, ◌+◌, ◌-◌, ◌<◌, ◌≤◌, true, cond, ◌&&◌, List, ◌++◌, length, take, drop, Ok, Err, Result, nat_le, nat_lt}
use Rattle.block.specs.Cell.{most}
use Rattle.block.specs.Block.{whose, size, content}
use Rattle.shelf.specs.Walk.{find}
use Rattle.shelf.specs.Sound.{sound}
use Rattle.requests.specs.Answers.{refused_by}
use Rattle.requests.specs.Free.{free_cells}
use Rattle.requests.specs.declared.done.Done.{Done}
use Rattle.requests.specs.declared.done.Done.TheVariants.{Saved}
use Rattle.requests.specs.declared.refusal.Refusal.{Refusal}
use Rattle.recovery.specs.Found.{found}

-- gone along from i, with all from `gap` to i to be free: at a block that is found the free cells before it, the block as it stands, and one goes on behind it; at the end the free cells
unfoldable pub mend_from : (fuel : ℕ) → List ℕ → (gap i : ℕ) → List ℕ
mend_from zero b g i = free_cells (length b - g)
mend_from (suc f) b g i =
    cond (nat_lt i (length b))
    (cond (found b i) (free_cells (i - g) ++ (take (size b i) (drop i b) ++ mend_from f b (i + size b i) (i + size b i))) (mend_from f b g (i + 1)))
    (free_cells (length b - g))

-- found blocks stay where they stand, and what lies between two, before the first or behind the last becomes free
unfoldable pub mended : List ℕ → List ℕ
mended b = mend_from (length b) b 0 0

-- a sound shelf with what was found, each where it stood, and nothing more
pub record Mended (b c : List ℕ) : Type 0 where
  pub is_sound : sound c ≡ true
  pub long : length c ≡ length b
  pub keeps : (j : ℕ) → found b j ≡ true → (find c (whose b j) ≡ j) × (content c j ≡ content b j)
  pub adds_none : (w : ℕ) → find c w < length c → found b (find c w) ≡ true

-- the number by which mending is refused, or nought: too few cells for a head, or too many
abbrev pub mend_refusal : List ℕ → ℕ
mend_refusal a = cond (nat_le 3 (length a) && nat_le (length a) most) 0 1

-- the answer by that number, and the cells afterwards
abbrev pub mend_answer : ℕ → Result Done Refusal
mend_answer zero = Ok Saved
mend_answer (suc n) = Err (refused_by (suc n))

abbrev pub mend_cells : ℕ → List ℕ → List ℕ
mend_cells zero b = mended b
mend_cells (suc n) b = b

-- mended, or refused and nothing changed
abbrev pub MendSays : ℕ → (before : List ℕ) → Result Done Refusal → (after : List ℕ) → Type 0
MendSays zero b r c = (r ≡ Ok Saved) × Mended b c
MendSays (suc n) b r c = (r ≡ Err (refused_by (suc n))) × (c ≡ b)

-- mending has come to i, with all from `gap` to i to be free: what stands before `gap` is written, and from there on all is as it was
pub record HalfMended (before now : List ℕ) (gap i : ℕ) : Type 0 where
  pub stretch : gap ≤ i
  pub within : i ≤ length before
  pub rest : drop gap now ≡ drop gap before
  pub steps : ℕ
  pub enough : length before ≤ i + steps
  pub written : take gap now ++ mend_from steps before gap i ≡ mended before
