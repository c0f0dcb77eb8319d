-- A command as it is written, and that it is read back.
use Rattle.std.specs.Prelude.{◌≡◌, ℕ, ◌^◌, ◌<◌, ◌≤◌, ◌⊎◌, List, [], ◌∷◌, ◌++◌, length, Option, Result}
use Rattle.std.specs.List.{flat_map, AllByRecursion}
use Rattle.text.specs.declared.commands.Command.{Command}
use Rattle.text.specs.declared.commands.Unreadable.{Unreadable}
use Rattle.text.specs.Reading.{asks, command_of}
use Rattle.text.specs.Writing.{next}

-- small letters, at least one
abbrev pub Keyword : List ℕ → Type 0
Keyword k = (0 < length k) × AllByRecursion (λ c. (97 ≤ c) × (c ≤ 122)) k

-- a keyword and its numbers, apart by one blank
abbrev pub said : List ℕ → List ℕ → List ℕ
said k ns = k ++ flat_map next ns

-- how a line may end: not at all, by a line feed, or by a carriage return and a line feed
abbrev pub LineEnd : List ℕ → Type 0
LineEnd e = (e ≡ []) ⊎ ((e ≡ 10 ∷ []) ⊎ (e ≡ 13 ∷ 10 ∷ []))

-- a line that says a keyword and numbers below 2^64 asks for just that command
abbrev pub ReadsBack : List ℕ → Result (Option Command) Unreadable → Type 0
ReadsBack line r = (k ns e : List ℕ) → Keyword k → AllByRecursion (λ n. n < 2 ^ 64) ns → LineEnd e → line ≡ said k ns ++ e → r ≡ asks (command_of k ns)
