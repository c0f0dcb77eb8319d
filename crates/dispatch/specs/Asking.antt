-- What each request answers and leaves behind. Assumes nothing: these are definitions.
use Rattle.std.specs.Prelude.{ℕ, List, Result}
use Rattle.requests.specs.Entry.{take_refusal, TakeSays, give_refusal, GiveSays, set_refusal, SetSays}
use Rattle.requests.specs.Plans.{take_plan, taken, give_plan, given, set_plan, set_to, answer, after, take_answer, where_room}
use Rattle.requests.specs.declared.Done.{Done}
use Rattle.requests.specs.declared.Done.TheVariants.{Given, Set as WasSet}
use Rattle.requests.specs.declared.Refusal.{Refusal}
use Rattle.recovery.specs.Mend.{mend_refusal, mend_answer, mend_cells, MendSays}
use Rattle.dispatch.specs.declared.asking.Request.{Request}
use Rattle.dispatch.specs.declared.asking.Request.TheVariants.{Take, Give, Set, Mend}

-- the answer
abbrev pub done_of : List ℕ → Request → Result Done Refusal
done_of a (Take w n) = take_answer (take_plan a w n)
done_of a (Give w) = answer Given (give_plan a w)
done_of a (Set w k x) = answer WasSet (set_plan a w k x)
done_of a Mend = mend_answer (mend_refusal a)

-- the cells afterwards
abbrev pub cells_after : List ℕ → Request → List ℕ
cells_after a (Take w n) = after (where_room taken) (take_plan a w n) a
cells_after a (Give w) = after given (give_plan a w) a
cells_after a (Set w k x) = after (λ p b. set_to p w b) (set_plan a w k x) a
cells_after a Mend = mend_cells (mend_refusal a) a

-- the number by which a request is turned away, or nought
abbrev pub refusal_of : List ℕ → Request → ℕ
refusal_of a (Take w n) = take_refusal a w n
refusal_of a (Give w) = give_refusal a w
refusal_of a (Set w k x) = set_refusal a w k x
refusal_of a Mend = mend_refusal a

-- the promise that holds of a request
abbrev pub Says : List ℕ → Request → Result Done Refusal → List ℕ → Type 0
Says a (Take w n) r b = TakeSays (take_refusal a w n) a w n r b
Says a (Give w) r b = GiveSays (give_refusal a w) a w r b
Says a (Set w k x) r b = SetSays (set_refusal a w k x) a w k x r b
Says a Mend r b = MendSays (mend_refusal a) a r b
