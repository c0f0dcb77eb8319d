-- What a line does to the cells of a shelf, and what it answers.
use Rattle.std.specs.Prelude.{ℕ, ◌^◌, Bool, cond, ◌&&◌, List, length, set as set_at, replicate, Some, None, Option, Ok, Err, Result, nat_le, nat_lt, ⊤}
use Rattle.shelf.specs.Sound.{first_unsound}
use Rattle.text.specs.declared.Command.{Command}
use Rattle.text.specs.declared.Command.TheVariants.{Shelf, Ask, Show, Hit, Cells, List as Listing}
use Rattle.text.specs.declared.Refused.{Refused}
use Rattle.text.specs.declared.Unreadable.{Unreadable}
use Rattle.laztimur.specs.declared.answering.Answer.{Answer}
use Rattle.laztimur.specs.declared.answering.Answer.TheVariants.{Nothing, All, AllInUse, Held, NoRoom}
use Rattle.requests.specs.declared.Done.{Done}
use Rattle.requests.specs.declared.Done.TheVariants.{Taken, NoRoom as Full, Given, Set, Saved}
use Rattle.requests.specs.declared.Refusal.{Refusal}
use Rattle.requests.specs.declared.Refusal.TheVariants.{Unusable, Unreadable as CantBeRead}
use Rattle.requests.specs.Answers.{number_of}
use Rattle.recovery.specs.Mend.{mended}
use Rattle.dispatch.specs.declared.Request.{Request}
use Rattle.dispatch.specs.Asking.{done_of, cells_after as asked_cells}
use Rattle.dispatch.specs.Places.{refusal_place_of}

-- how many cells a shelf may have
abbrev pub is_size : ℕ → Bool
is_size n = nat_le 3 n && nat_le n 100000

-- a place on the shelf, and what fits a cell
abbrev pub can_hit : List ℕ → ℕ → ℕ → Bool
can_hit cells place value = nat_lt place (length cells) && nat_lt value (2 ^ 32)

-- what is written of a refusal that is about a place
abbrev pub refused_for : Refusal → ℕ → Refused
refused_for why place = record { number = number_of why; place = place }

abbrev pub refused : Refusal → ℕ → Result Answer Refused
refused why place = Err (refused_for why place)

-- a new shelf of so many cells, or why there is none
abbrev pub renewed : ℕ → Result ⊤ Refusal
renewed n = cond (is_size n) (Ok tt) (Err Unusable)

-- a cell that becomes a value, or why none does
abbrev pub hit_done : List ℕ → ℕ → ℕ → Result ⊤ Refusal
hit_done cells place value = cond (can_hit cells place value) (Ok tt) (Err CantBeRead)

-- nothing is written of what was done; a refusal is about a place
abbrev pub written_of : Result ⊤ Refusal → ℕ → Result Answer Refused
written_of (Ok done) place = Ok Nothing
written_of (Err why) place = refused why place

-- an answer, refused by the first place at fault where there is one
abbrev pub unless_at : Option ℕ → Answer → Result Answer Refused
unless_at None answer = Ok answer
unless_at (Some place) answer = refused Unusable place

-- an answer, where the shelf is sound
abbrev pub where_sound : List ℕ → Answer → Result Answer Refused
where_sound cells answer = unless_at (first_unsound cells) answer

-- what is written of the answer to a request of the shelf
abbrev pub told : List ℕ → Request → Result Done Refusal → Result Answer Refused
told cells q (Ok Taken) = Ok Nothing
told cells q (Ok Full) = Ok NoRoom
told cells q (Ok Given) = Ok Nothing
told cells q (Ok Set) = Ok Nothing
told cells q (Ok Saved) = Ok Nothing
told cells q (Err why) = refused why (refusal_place_of cells q (number_of why))

-- the cells after a command
abbrev pub cells_after : List ℕ → Command → List ℕ
cells_after cells (Shelf n) = cond (is_size n) (mended (replicate n 0)) cells
cells_after cells (Hit place value) = cond (can_hit cells place value) (set_at cells place value) cells
cells_after cells (Ask q) = asked_cells cells q
cells_after cells (Show w) = cells
cells_after cells Cells = cells
cells_after cells Listing = cells

-- what a command answers that stands on a line
abbrev pub answer_of : List ℕ → ℕ → Command → Result Answer Refused
answer_of cells line (Shelf n) = cond (is_size n) (Ok Nothing) (refused Unusable n)
answer_of cells line (Hit place value) = cond (can_hit cells place value) (Ok Nothing) (refused CantBeRead line)
answer_of cells line (Ask q) = told cells q (done_of cells q)
answer_of cells line (Show w) = Ok (Held w)
answer_of cells line Cells = Ok All
answer_of cells line Listing = where_sound cells AllInUse

-- the same of a line, by what it asks for
abbrev pub cells_after_line : List ℕ → Result (Option Command) Unreadable → List ℕ
cells_after_line cells (Ok None) = cells
cells_after_line cells (Ok (Some c)) = cells_after cells c
cells_after_line cells (Err e) = cells

abbrev pub answer_to_line : List ℕ → ℕ → Result (Option Command) Unreadable → Result Answer Refused
answer_to_line cells line (Ok None) = Ok Nothing
answer_to_line cells line (Ok (Some c)) = answer_of cells line c
answer_to_line cells line (Err e) = refused CantBeRead line
