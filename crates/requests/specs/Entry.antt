-- What the requests answer and leave behind, over the cells that they are lent. Assumes nothing: these are definitions.
use Rattle.std.specs.Prelude.{◌≡◌, ℕ, zero, suc, Bool, true, false, cond, not, ◌&&◌, ◌⊎◌, List, [], length, Ok, Err, Result, ◌≢◌, nat_le, nat_lt, slice_set}
use Rattle.block.specs.Cell.{limit, most}
use Rattle.block.specs.Block.{is_head, long, in_use, content}
use Rattle.shelf.specs.Walk.{find, has_room, Held, none, held, holds}
use Rattle.shelf.specs.Sound.{sound}
use Rattle.requests.specs.Answers.{refused_by}
use Rattle.requests.specs.Free.{noughts}
use Rattle.requests.specs.declared.done.Done.{Done}
use Rattle.requests.specs.declared.done.Done.TheVariants.{Taken, NoRoom, Given, Set}
use Rattle.requests.specs.declared.refusal.Refusal.{Refusal}

abbrev pub is_held : Held → Bool
is_held none = false
is_held (held c) = true

-- what all others hold, and where, is as it was
pub record Others (a b : List ℕ) (but : ℕ) : Type 0 where
  pub long : length b ≡ length a
  pub row : (v : ℕ) → (v ≢ but) → holds b v ≡ holds a v
  pub place : (v : ℕ) → (v ≢ but) → find b v ≡ find a v

-- a shelf that requests are carried out on
abbrev pub usable : List ℕ → Bool
usable a = sound a && nat_le (length a) most

-- the number by which somebody who takes is turned away, or nought
abbrev pub take_refusal : (shelf : List ℕ) → (w n : ℕ) → ℕ
take_refusal a w n = cond (usable a) (cond (nat_lt w limit) (cond (is_held (holds a w)) 3 (cond (nat_le n most) 0 4)) 2) 1

-- a free block that is long enough begins at a place
abbrev pub starts_free : List ℕ → ℕ → ℕ → Bool
starts_free a n i = is_head a i && (not (in_use a i) && nat_le n (long a i))

-- a block was taken: a row of noughts where a free block began that is long enough
pub record Takes (a : List ℕ) (w n : ℕ) (b : List ℕ) : Type 0 where
  pub room : has_room (length a) a n 0 ≡ true
  pub stays_sound : sound b ≡ true
  pub began : starts_free a n (find b w) ≡ true
  pub holding : holds b w ≡ held (noughts n)
  pub others : Others a b w

abbrev pub TakeSays : ℕ → (shelf : List ℕ) → (w n : ℕ) → Result Done Refusal → (after : List ℕ) → Type 0
TakeSays zero a w n r b = ((r ≡ Ok Taken) × Takes a w n b) ⊎ ((r ≡ Ok NoRoom) × (has_room (length a) a n 0 ≡ false) × (b ≡ a))
TakeSays (suc f) a w n r b = (r ≡ Err (refused_by (suc f))) × (b ≡ a)

abbrev pub give_refusal : (shelf : List ℕ) → (w : ℕ) → ℕ
give_refusal a w = cond (usable a) (cond (nat_lt w limit) (cond (is_held (holds a w)) 0 5) 2) 1

-- a block was given back: its owner holds none
pub record Gives (a : List ℕ) (w : ℕ) (b : List ℕ) : Type 0 where
  pub stays_sound : sound b ≡ true
  pub holding : holds b w ≡ none
  pub others : Others a b w

abbrev pub GiveSays : ℕ → (shelf : List ℕ) → (w : ℕ) → Result Done Refusal → (after : List ℕ) → Type 0
GiveSays zero a w r b = (r ≡ Ok Given) × Gives a w b
GiveSays (suc f) a w r b = (r ≡ Err (refused_by (suc f))) × (b ≡ a)

-- a cell of what somebody holds
abbrev pub within : Held → ℕ → Bool
within none k = false
within (held c) k = nat_lt k (length c)

abbrev pub set_refusal : (shelf : List ℕ) → (w k x : ℕ) → ℕ
set_refusal a w k x = cond (usable a) (cond (nat_lt w limit && nat_lt x limit) (cond (is_held (holds a w)) (cond (within (holds a w) k) 0 4) 5) 2) 1

-- one cell of somebody's row was set: all else in it stays
pub record Sets (a : List ℕ) (w k x : ℕ) (b : List ℕ) : Type 0 where
  pub stays_sound : sound b ≡ true
  pub place : find b w ≡ find a w
  pub holding : holds b w ≡ held (slice_set (content a (find a w)) k x)
  pub others : Others a b w

abbrev pub SetSays : ℕ → (shelf : List ℕ) → (w k x : ℕ) → Result Done Refusal → (after : List ℕ) → Type 0
SetSays zero a w k x r b = (r ≡ Ok Set) × Sets a w k x b
SetSays (suc f) a w k x r b = (r ≡ Err (refused_by (suc f))) × (b ≡ a)

-- what somebody holds, as a part of the shelf; a part of none where they hold none or the shelf can't be used
abbrev pub viewed : (shelf : List ℕ) → (w : ℕ) → Held
viewed a w = cond (usable a) (holds a w) none

abbrev pub rows : Held → List ℕ
rows none = []
rows (held c) = c
