-- What is written in answer.
use Rattle.std.specs.Prelude.{ℕ, List, [], ◌∷◌, ◌++◌, codes, decimal}
use Rattle.std.specs.List.{flat_map}

-- a refusal, by its number and what it is about
abbrev pub refused_at : ℕ → ℕ → List ℕ
refused_at number place = codes "refused " ++ (decimal number ++ (codes " at " ++ decimal place))

-- a block in use: whose it is, where it stands, how long its row is
abbrev pub listed : (owner place length : ℕ) → List ℕ
listed owner place length = decimal owner ++ (codes " " ++ (decimal place ++ (codes " " ++ decimal length)))

-- a blank, and a number
abbrev pub next : ℕ → List ℕ
next n = codes " " ++ decimal n

-- numbers, apart by one blank
abbrev pub spaced : List ℕ → List ℕ
spaced [] = []
spaced (n ∷ ns) = decimal n ++ flat_map next ns
