-- What a line asks for.
use Rattle.std.specs.Prelude.{ℕ, ◌==◌, cond, List, [], ◌∷◌, length, Some, None, Option, Ok, Err, Result, codes}
use Rattle.std.specs.Str.{bytes_eq}
use Rattle.text.specs.declared.commands.Command.{Command}
use Rattle.text.specs.declared.commands.Command.TheVariants.{Shelf, Ask, Show, Hit, Cells, List as Listing}
use Rattle.dispatch.specs.declared.Request.TheVariants.{Take, Give, Set, Mend}
use Rattle.text.specs.declared.commands.Unreadable.{Unreadable}
use Rattle.text.specs.Cut.{words, without_end}
use Rattle.text.specs.Spelling.{spelled}

-- a number before some others, where all are there
abbrev pub both : Option ℕ → Option (List ℕ) → Option (List ℕ)
both None ns = None
both (Some n) None = None
both (Some n) (Some ns) = Some (n ∷ ns)

-- the numbers that words spell, where each spells one
unfoldable pub numbers_of : List (List ℕ) → Option (List ℕ)
numbers_of [] = Some []
numbers_of (w ∷ ws) = both (spelled w) (numbers_of ws)

-- numbers, where there are exactly k
abbrev pub exactly : ℕ → Option (List ℕ) → Option (List ℕ)
exactly k None = None
exactly k (Some ns) = cond (length ns == k) (Some ns) None

-- a command where the keyword is its name, else what else there is
abbrev pub if_named : List ℕ → List ℕ → Command → Option Command → Option Command
if_named keyword name c other = cond (bytes_eq keyword name) (Some c) other

-- the command that a keyword and its numbers are
abbrev pub command_of : List ℕ → List ℕ → Option Command
command_of k [] = if_named k (codes "cells") Cells (if_named k (codes "list") Listing (if_named k (codes "mend") (Ask Mend) None))
command_of k (n ∷ []) = if_named k (codes "shelf") (Shelf n) (if_named k (codes "give") (Ask (Give n)) (if_named k (codes "show") (Show n) None))
command_of k (m ∷ n ∷ []) = if_named k (codes "take") (Ask (Take m n)) (if_named k (codes "hit") (Hit m n) None)
command_of k (l ∷ m ∷ n ∷ []) = if_named k (codes "set") (Ask (Set l m n)) None
command_of k (l ∷ m ∷ n ∷ o ∷ ns) = None

-- what a line is that asks for a command, if there is one
abbrev pub asks : Option Command → Result (Option Command) Unreadable
asks None = Err (record {})
asks (Some c) = Ok (Some c)

-- what a keyword asks for with the words behind it, of which ns are the numbers
abbrev pub asked : List ℕ → Option (List ℕ) → Result (Option Command) Unreadable
asked k None = Err (record {})
asked k (Some ns) = asks (command_of k ns)

-- what a list of words asks for
abbrev pub asked_by : List (List ℕ) → Result (Option Command) Unreadable
asked_by [] = Ok None
asked_by (k ∷ ws) = asked k (numbers_of ws)

-- what a line asks for
abbrev pub line_of : List ℕ → Result (Option Command) Unreadable
line_of line = asked_by (words (without_end line))
