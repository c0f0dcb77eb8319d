-- A plain list of who holds what, and whole runs of requests beside it. Assumes nothing: these are definitions.
use Rattle.std.specs.Prelude.{◌≡◌, ℕ, true, false, cond, ◌&&◌, List, [], ◌∷◌, length, Ok, Err, Result, ◌==◌, nat_le, nat_lt, slice_set}
use Rattle.block.specs.Cell.{limit, most}
use Rattle.shelf.specs.Walk.{has_room, Held, none, held, holds}
use Rattle.requests.specs.Answers.{number}
use Rattle.requests.specs.Entry.{is_held, usable, within}
use Rattle.requests.specs.Free.{noughts}
use Rattle.requests.specs.declared.Done.{Done}
use Rattle.requests.specs.declared.Done.TheVariants.{Taken, NoRoom, Given, Set as WasSet, Saved}
use Rattle.requests.specs.declared.Refusal.{Refusal}
use Rattle.dispatch.specs.Asking.{done_of, cells_after}
use Rattle.dispatch.specs.declared.asking.Request.{Request}
use Rattle.dispatch.specs.declared.asking.Request.TheVariants.{Take, Give, Set, Mend}

-- who holds what: a row for each owner, or none
abbrev pub Ledger : Type 0
Ledger = ℕ → Held

-- somebody's entry written anew
abbrev pub enter : Ledger → ℕ → Held → Ledger
enter m w h v = cond (v == w) h (m v)

-- a row with one cell set
abbrev pub set_in : Held → ℕ → ℕ → Held
set_in none k x = none
set_in (held c) k x = held (slice_set c k x)

-- the list after a request that was answered so: taking adds noughts, giving back removes, setting changes one cell, and all else changes nothing
abbrev pub ledger_after : Ledger → Request → Result Done Refusal → Ledger
ledger_after m (Take w n) (Ok Taken) = enter m w (held (noughts n))
ledger_after m (Give w) (Ok Given) = enter m w none
ledger_after m (Set w k x) (Ok WasSet) = enter m w (set_in (m w) k x)
ledger_after m (Take w n) (Ok NoRoom) = m
ledger_after m (Take w n) (Ok Given) = m
ledger_after m (Take w n) (Ok WasSet) = m
ledger_after m (Take w n) (Ok Saved) = m
ledger_after m (Take w n) (Err r) = m
ledger_after m (Give w) (Ok Taken) = m
ledger_after m (Give w) (Ok NoRoom) = m
ledger_after m (Give w) (Ok WasSet) = m
ledger_after m (Give w) (Ok Saved) = m
ledger_after m (Give w) (Err r) = m
ledger_after m (Set w k x) (Ok Taken) = m
ledger_after m (Set w k x) (Ok NoRoom) = m
ledger_after m (Set w k x) (Ok Given) = m
ledger_after m (Set w k x) (Ok Saved) = m
ledger_after m (Set w k x) (Err r) = m
ledger_after m Mend d = m

-- the number by which the list would turn a request away, on a shelf of so many cells
abbrev pub ledger_refusal : ℕ → Ledger → Request → ℕ
ledger_refusal l m (Take w n) = cond (nat_lt w limit) (cond (is_held (m w)) 3 (cond (nat_le n most) 0 4)) 2
ledger_refusal l m (Give w) = cond (nat_lt w limit) (cond (is_held (m w)) 0 5) 2
ledger_refusal l m (Set w k x) = cond (nat_lt w limit && nat_lt x limit) (cond (is_held (m w)) (cond (within (m w) k) 0 4) 5) 2
ledger_refusal l m Mend = cond (nat_le 3 l) 0 1

-- whether a request finds no room: the one thing that the list doesn't decide
abbrev pub finds_none : List ℕ → Request → Result Done Refusal → Type 0
finds_none a (Take w n) d = has_room (length a) a n 0 ≡ false
finds_none a (Give w) d = ⊥
finds_none a (Set w k x) d = ⊥
finds_none a Mend d = ⊥

-- a request on a shelf that can be used does what the list says
pub record Follows (a : List ℕ) (q : Request) (d : Result Done Refusal) (b : List ℕ) : Type 0 where
  pub stays_usable : usable b ≡ true
  pub holding : (v : ℕ) → holds b v ≡ ledger_after (holds a) q d v
  pub refused_as : number d ≡ ledger_refusal (length a) (holds a) q
  pub no_room : d ≡ Ok NoRoom → finds_none a q d

-- a run of requests: the cells after it, what each answered, and the list after it
abbrev pub cells_run : List ℕ → List Request → List ℕ
cells_run a [] = a
cells_run a (q ∷ qs) = cells_run (cells_after a q) qs

abbrev pub ledger_run : List ℕ → Ledger → List Request → Ledger
ledger_run a m [] = m
ledger_run a m (q ∷ qs) = ledger_run (cells_after a q) (ledger_after m q (done_of a q)) qs

-- each request of a run is refused just where the list says so
abbrev pub AsListed : List ℕ → Ledger → List Request → Type 0
AsListed a m [] = Unit {0}
AsListed a m (q ∷ qs) = (number (done_of a q) ≡ ledger_refusal (length a) m q) × AsListed (cells_after a q) (ledger_after m q (done_of a q)) qs

-- whatever is asked, one after the other: what everybody holds is what the list says, each refusal is the list's, and the shelf can still be used
pub record RunFollows (a : List ℕ) (qs : List Request) : Type 0 where
  pub stays_usable : usable (cells_run a qs) ≡ true
  pub holding : (v : ℕ) → holds (cells_run a qs) v ≡ ledger_run a (holds a) qs v
  pub as_listed : AsListed a (holds a) qs

abbrev pub WholeRuns : Type 0
WholeRuns = (a : List ℕ) (qs : List Request) → usable a ≡ true → RunFollows a qs
