-- Plans, and the cells that they leave. Assumes nothing: these are definitions.
use Rattle.std.specs.Prelude.{ℕ, zero, suc, ◌+◌, ◌-◌, ◌<◌, ◌≤◌, true, cond, List, ◌++◌, length, Some, None, Option, Ok, Err, Result, nat_lt, slice_set}
use borrow.Rule.Slice.PartMut.{put_mid}
use Rattle.block.specs.Cell.{limit, most}
use Rattle.block.specs.Block.{at, size_for, size, content, block_cells}
use Rattle.shelf.specs.Walk.{next, find, room}
use Rattle.shelf.specs.Sound.{idle}
use Rattle.requests.specs.Answers.{refused_by}
use Rattle.requests.specs.Entry.{usable, take_refusal, give_refusal, set_refusal}
use Rattle.requests.specs.Free.{noughts, free_cells}
use Rattle.requests.specs.declared.done.Done.{Done}
use Rattle.requests.specs.declared.done.Done.TheVariants.{Taken, NoRoom}
use Rattle.requests.specs.declared.refusal.Refusal.{Refusal}
use Rattle.requests.specs.declared.refusal.Refusal.TheVariants.{Unusable, TooLarge}
use Rattle.requests.specs.declared.plans.Taking.{Taking}
use Rattle.requests.specs.declared.plans.Giving.{Giving}
use Rattle.requests.specs.declared.plans.Setting.{Setting}

-- a plan where there is no refusal
abbrev pub unless : {P : Type 0} → ℕ → Result P Refusal → Result P Refusal
unless zero p = p
unless (suc f) p = Err (refused_by (suc f))

-- a number below the limit
abbrev pub within_limit : ℕ → Result ℕ Refusal
within_limit n = cond (nat_lt n limit) (Ok n) (Err TooLarge)

-- whose request it is, where the shelf can be used and there may be such an owner
abbrev pub admitted : (shelf : List ℕ) → (w : ℕ) → Result ℕ Refusal
admitted a w = cond (usable a) (within_limit w) (Err Unusable)

-- the first free block along the shelf that is long enough is taken; there may be none
abbrev pub taking_of : (shelf : List ℕ) → (w n : ℕ) → Taking
taking_of a w n = record { place = room a n; size = size a (room a n); owner = w; long = n }

abbrev pub take_plan : (shelf : List ℕ) → (w n : ℕ) → Result (Option Taking) Refusal
take_plan a w n = unless (take_refusal a w n) (Ok (cond (nat_lt (room a n) (length a)) (Some (taking_of a w n)) None))

-- the new block stands where the free one began; what is over stands behind it, free
abbrev pub take_part : Taking → List ℕ
take_part p = block_cells true p.owner (noughts p.long) ++ free_cells (p.size - size_for p.long)

abbrev pub taken : Taking → List ℕ → List ℕ
taken p a = put_mid p.place p.size a (take_part p)

-- where the free things that end at p begin: one has come to i, and all from `from` to i is idle
unfoldable pub idle_start : (fuel : ℕ) → List ℕ → (p i from : ℕ) → ℕ
idle_start zero a p i from = from
idle_start (suc f) a p i from = cond (nat_lt i p) (idle_start f a p (next a i) (cond (idle a i) from (next a i))) from

-- where the free things that begin at i end
unfoldable pub idle_end : (fuel : ℕ) → List ℕ → ℕ → ℕ
idle_end zero a i = i
idle_end (suc f) a i = cond (idle a i) (idle_end f a (next a i)) i

-- what is free on both sides becomes one with the block that is given back
abbrev pub giving_of : (shelf : List ℕ) → (w : ℕ) → Giving
giving_of a w = record { place = find a w; from = idle_start (length a) a (find a w) 0 0; end = idle_end (length a) a (next a (find a w)) }

abbrev pub give_plan : (shelf : List ℕ) → (w : ℕ) → Result Giving Refusal
give_plan a w = unless (give_refusal a w) (Ok (giving_of a w))

abbrev pub given : Giving → List ℕ → List ℕ
given p a = put_mid p.from (p.end - p.from) a (free_cells (p.end - p.from))

-- the cell of the block that somebody holds
abbrev pub setting_of : (shelf : List ℕ) → (w k x : ℕ) → Setting
setting_of a w k x = record { place = find a w; size = size a (find a w); cell = k; to = x }

abbrev pub set_plan : (shelf : List ℕ) → (w k x : ℕ) → Result Setting Refusal
set_plan a w k x = unless (set_refusal a w k x) (Ok (setting_of a w k x))

-- the block with one cell of its row set, and a checksum that fits
abbrev pub set_to : Setting → (owner : ℕ) → List ℕ → List ℕ
set_to p w a = put_mid p.place p.size a (block_cells true w (slice_set (content a p.place) p.cell p.to))

-- the answer and the cells, by the plan
abbrev pub answer : {P : Type 0} → Done → Result P Refusal → Result Done Refusal
answer d (Ok p) = Ok d
answer d (Err e) = Err e

abbrev pub after : {P : Type 0} → (P → List ℕ → List ℕ) → Result P Refusal → List ℕ → List ℕ
after run (Ok p) a = run p a
after run (Err e) a = a

-- the same where there may be no room
abbrev pub take_answer : Result (Option Taking) Refusal → Result Done Refusal
take_answer (Ok (Some p)) = Ok Taken
take_answer (Ok None) = Ok NoRoom
take_answer (Err e) = Err e

abbrev pub where_room : {P : Type 0} → (P → List ℕ → List ℕ) → Option P → List ℕ → List ℕ
where_room run (Some p) a = run p a
where_room run None a = a

-- a plan fits a shelf: what it writes is on it, and there is room for it
pub record FitsTaking (p : Taking) (a : List ℕ) : Type 0 where
  pub inside : p.place + p.size ≤ length a
  pub fits : size_for p.long ≤ p.size
  pub short : length a ≤ most

pub record FitsGiving (p : Giving) (a : List ℕ) : Type 0 where
  pub before : p.from ≤ p.place
  pub behind : p.place < p.end
  pub inside : p.end ≤ length a
  pub short : length a ≤ most

pub record FitsSetting (p : Setting) (a : List ℕ) : Type 0 where
  pub inside : p.place + p.size ≤ length a
  pub fits : size_for p.cell < p.size
  pub small : at a (p.place + size_for p.cell) < limit
  pub short : length a ≤ most
