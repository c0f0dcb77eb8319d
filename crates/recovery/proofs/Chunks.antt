-- Cells compared with a number: where none is that number, no marked block is that owner's.
use Rattle.std.proofs.Common.{◌≡◌, ℕ, ◌+◌, ◌-◌, ◌<◌, false, List, length, get_or, take, drop, arith, length-drop, length-take, get_or-drop, get_or-take}
use Rattle.std.proofs.lemmas.Bool.{both_ways}
use Rattle.shelf.specs.Compared.{has_cell}
use Rattle.shelf.proofs.Compared.{has_at}
use Rattle.recovery.specs.Search.{MarkedAs}

-- a chunk without a cell of that number has no block of that owner
pub none_in_chunk : (ms a : List ℕ) (w i j : ℕ) → j < length a → has_cell w (take (j + 1 - (i + 1)) (drop (i + 1) a)) ≡ false → MarkedAs ms a w i j → ⊥
none_in_chunk ms a w i j l none r =
    let p = r.0 in
    let from = r.1 in
    let to = r.2 in
    let chunk = take (j + 1 - (i + 1)) (drop (i + 1) a) in
    let e : i + 1 + (p - i) ≡ p + 1 = omega arith in
    let k : p - i < j + 1 - (i + 1) = omega arith in
    let cell : get_or chunk (p - i) 0 ≡ w = rw (get_or-take (j + 1 - (i + 1)) (drop (i + 1) a) (p - i) 0 k, get_or-drop (i + 1) a (p - i) 0, e) r.4 in
    let n : p - i < length chunk = simp (length-take, length-drop) (omega arith) in
    both_ways (has_cell w chunk) none (has_at w chunk (p - i) n cell)
