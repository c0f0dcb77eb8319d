-- The place that a refusal is about. Assumes nothing: these are definitions.
use Rattle.std.specs.Prelude.{ℕ, zero, suc, cond, List, length, nat_le, nat_lt}
use Rattle.std.specs.Option.{unwrap_or}
use Rattle.block.specs.Cell.{limit, most}
use Rattle.shelf.specs.Walk.{find}
use Rattle.shelf.specs.Sound.{first_unsound}
use Rattle.dispatch.specs.declared.asking.Request.{Request}
use Rattle.dispatch.specs.declared.asking.Request.TheVariants.{Take, Give, Set, Mend}

-- a shelf that can't be used: its length if that is at fault, else the first place at fault
abbrev pub shelf_place : List ℕ → ℕ
shelf_place a = cond (nat_le (length a) most) (unwrap_or (first_unsound a) 0) (length a)

-- whose request it is
abbrev pub owner_of : Request → ℕ
owner_of (Take w n) = w
owner_of (Give w) = w
owner_of (Set w k x) = w
owner_of Mend = 0

-- the number that is too large, the owner first
abbrev pub large_of : Request → ℕ
large_of (Take w n) = w
large_of (Give w) = w
large_of (Set w k x) = cond (nat_lt w limit) x w
large_of Mend = 0

-- the length or the cell that is asked for
abbrev pub asked_for : Request → ℕ
asked_for (Take w n) = n
asked_for (Give w) = 0
asked_for (Set w k x) = k
asked_for Mend = 0

-- what is wrong with the shelf, for a request: mending asks only for a length
abbrev pub fault_place : List ℕ → Request → ℕ
fault_place a (Take w n) = shelf_place a
fault_place a (Give w) = shelf_place a
fault_place a (Set w k x) = shelf_place a
fault_place a Mend = length a

-- by the number of the refusal: the shelf, the number, the block held, the length or cell, the owner
abbrev pub refusal_place_of : List ℕ → Request → ℕ → ℕ
refusal_place_of a q zero = 0
refusal_place_of a q (suc zero) = fault_place a q
refusal_place_of a q (suc (suc zero)) = large_of q
refusal_place_of a q (suc (suc (suc zero))) = find a (owner_of q)
refusal_place_of a q (suc (suc (suc (suc zero)))) = asked_for q
refusal_place_of a q (suc (suc (suc (suc (suc n))))) = owner_of q
