-- Laws of requests. Each statement is the contract of a function.
use Rattle.std.specs.Prelude.{◌≡◌, ℕ, ◌<◌, ◌≤◌, true, false, List, [], ◌∷◌, length}
use Rattle.shelf.specs.Walk.{room}
use Rattle.shelf.specs.Pieces.{Piece, gap, blk, flat, SoundPieces}
use Rattle.requests.specs.Answers.{number_of, refused_by}
use Rattle.requests.specs.Entry.{take_refusal}
use Rattle.requests.specs.Free.{noughts}
use Rattle.requests.specs.Plans.{taking_of, taken, giving_of, given}
use Rattle.requests.specs.declared.refusal.Refusal.{Refusal}

-- a free block is as we write it: nobody's, a row of noughts
abbrev pub AsWritten : Piece → Type 0
AsWritten gap = Unit {0}
AsWritten (blk true w r) = Unit {0}
AsWritten (blk false w r) = (w ≡ 0) × (r ≡ noughts (length r))

abbrev pub AllAsWritten : List Piece → Type 0
AllAsWritten [] = Unit {0}
AllAsWritten (x ∷ xs) = AsWritten x × AllAsWritten xs

-- a sound shelf whose free blocks are as we write them
pub record Canonical (a : List ℕ) : Type 0 where
  pub its : List Piece
  pub whole : a ≡ flat its
  pub good : SoundPieces its
  pub written : AllAsWritten its

-- giving back undoes taking: the shelf comes back cell by cell
abbrev pub GiveUndoesTake : Type 0
GiveUndoesTake =
    (a : List ℕ) (w n : ℕ) → Canonical a → take_refusal a w n ≡ 0 → room a n < length a → given (giving_of (taken (taking_of a w n) a) w) (taken (taking_of a w n) a) ≡ a

-- the numbers 1 to 6 are the refusals' own, so that two refusals of one number are one
pub record RefusalsNumbered : Type 0 where
  pub numbers : (n : ℕ) → 0 < n → n ≤ 6 → number_of (refused_by n) ≡ n
  pub refusals : (e : Refusal) → refused_by (number_of e) ≡ e
