-- Refusals and their numbers, and what each answer says. Assumes nothing: these are definitions.
use Rattle.std.specs.Prelude.{◌≡◌, ℕ, zero, suc, ◌<◌, ◌⊎◌, Ok, Err, Result, MatchResult}
use Rattle.requests.specs.declared.done.Done.{Done}
use Rattle.requests.specs.declared.refusal.Refusal.{Refusal}
use Rattle.requests.specs.declared.refusal.Refusal.TheVariants.{Unusable, TooLarge, HoldsOne, OutOfRange, HoldsNone, Unreadable}
use Rattle.requests.specs.declared.refusal.UnknownRefusal.{UnknownRefusal}

-- a refusal's number on the list
abbrev pub number_of : Refusal → ℕ
number_of Unusable = 1
number_of TooLarge = 2
number_of HoldsOne = 3
number_of OutOfRange = 4
number_of HoldsNone = 5
number_of Unreadable = 6

-- the refusal by a number
abbrev pub refused_by : ℕ → Refusal
refused_by zero = Unreadable
refused_by (suc zero) = Unusable
refused_by (suc (suc zero)) = TooLarge
refused_by (suc (suc (suc zero))) = HoldsOne
refused_by (suc (suc (suc (suc zero)))) = OutOfRange
refused_by (suc (suc (suc (suc (suc zero))))) = HoldsNone
refused_by (suc (suc (suc (suc (suc (suc n)))))) = Unreadable

-- the refusal that has a number, or that none has it
abbrev pub Numbers : ℕ → Result Refusal UnknownRefusal → Type 0
Numbers n r = MatchResult r (λ e. number_of e ≡ n) (λ e. (e.0 ≡ n) × ((n ≡ 0) ⊎ (6 < n)))

-- the number by which a request was turned away, nought where it was not
abbrev pub number : Result Done Refusal → ℕ
number (Ok d) = 0
number (Err e) = number_of e
