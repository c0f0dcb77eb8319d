-- The words that an iterator over a line's words has left.
use Rattle.std.specs.Prelude.{◌≡◌, ℕ, List, [], Option, MatchOption}
use Rattle.std.specs.Borrow.{Bor}
use Rattle.text.specs.declared.words.Words.{Words}
use Rattle.text.specs.Cut.{words, First}

abbrev pub words_left : Words → List (List ℕ)
words_left s = words s.rest.now

-- a call gave the first word that was left and left what stands behind it, or `None` where none was left, and then none is
abbrev pub GivesWord : Words → Option (Bor (List ℕ)) → Words → Type 0
GivesWord s r t = MatchOption r ((words_left s ≡ []) × (words_left t ≡ [])) (λ w. First s.rest.now w.now t.rest.now)
