-- What somebody is shown. Assumes nothing: these are definitions.
use Rattle.std.specs.Prelude.{◌≡◌, ℕ, cond, List, Some, None, Option, Ok, Err, Result, nat_lt}
use Rattle.std.specs.Borrow.{Bor}
use Rattle.block.specs.Cell.{limit}
use Rattle.shelf.specs.Walk.{none, held, holds}
use Rattle.requests.specs.Answers.{number_of}
use Rattle.requests.specs.Entry.{usable}
use Rattle.requests.specs.declared.Refusal.{Refusal}

-- the number by which somebody who asks for what they hold is turned away, or nought
abbrev pub show_refusal : List ℕ → ℕ → ℕ
show_refusal a w = cond (usable a) (cond (nat_lt w limit) 0 2) 1

-- the row just where it is held, none just where none is, and a refusal by its number
abbrev pub Shows : List ℕ → ℕ → Result (Option (Bor (List ℕ))) Refusal → Type 0
Shows a w (Ok (Some r)) = (show_refusal a w ≡ 0) × (holds a w ≡ held r.now)
Shows a w (Ok None) = (show_refusal a w ≡ 0) × (holds a w ≡ none)
Shows a w (Err e) = show_refusal a w ≡ number_of e
