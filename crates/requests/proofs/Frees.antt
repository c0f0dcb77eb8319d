-- Free pieces: their cells, their extent, and that nobody holds them.
use Rattle.std.proofs.Common.{◌≡◌, ℕ, zero, suc, ◌-◌, ◌<◌, ◌≤◌, Bool, true, false, not, List, [], ◌∷◌, ◌++◌, map, length, sym, refl, append-nil, arith}
use lib.ListN.{length-replicate}
use Rattle.std.proofs.lemmas.Bool.{false≢true, and_from}
use Rattle.block.specs.Cell.{limit}
use Rattle.block.specs.Block.{all_small, block_cells}
use Rattle.block.proofs.Cells.{first_cell_live}
use Rattle.block.proofs.Blocks.{size_is}
use Rattle.shelf.specs.Pieces.{blk, total, Fine, AllFine, used_by, Kind, Gap, Free, Used, kind, idle_first, gap_ok, tidy, owners}
use Rattle.shelf.proofs.Looks.{has}
use Rattle.requests.specs.Free.{noughts, free_pieces, free_cells}

pub small_noughts : (n : ℕ) → all_small (noughts n) ≡ true
unfolding all_small
small_noughts zero = refl
small_noughts (suc n) = small_noughts n

pub noughts_fine : (u : Bool) (w n : ℕ) → w < limit → n ≤ 100000 → Fine (blk u w (noughts n))
noughts_fine u w n l h = record { owner = l; small = small_noughts n; live = first_cell_live _ u (let z = length-replicate {A = ℕ} n 0 in omega arith) }

-- else a block
pub free_many : (n : ℕ) → 3 ≤ n → block_cells false 0 (noughts (n - 3)) ≡ free_cells n
free_many zero h = absurd (omega arith)
free_many (suc zero) h = absurd (omega arith)
free_many (suc (suc zero)) h = absurd (omega arith)
free_many (suc (suc (suc n))) h = let e : suc (suc (suc n)) - 3 ≡ n = omega arith in rw e (sym (append-nil (block_cells false 0 (noughts n))))

pub free_total : (n : ℕ) → total (free_pieces n) ≡ n
free_total zero = refl
free_total (suc zero) = refl
free_total (suc (suc zero)) = refl
free_total (suc (suc (suc n))) = let z = length-replicate {A = ℕ} n 0 in let s = size_is (length (noughts n)) in omega arith

pub free_fine : (n : ℕ) → n ≤ 100000 → AllFine (free_pieces n)
free_fine zero l = tt
free_fine (suc zero) l = (tt, tt)
free_fine (suc (suc zero)) l = (tt, (tt, tt))
free_fine (suc (suc (suc n))) l = (noughts_fine false 0 n (omega arith) (omega arith), tt)

pub free_none : (v n : ℕ) → has (used_by v) (free_pieces n) ≡ false
free_none v zero = refl
free_none v (suc zero) = refl
free_none v (suc (suc zero)) = refl
free_none v (suc (suc (suc n))) = refl

pub free_owners : (n : ℕ) → owners (free_pieces n) ≡ []
free_owners zero = refl
free_owners (suc zero) = refl
free_owners (suc (suc zero)) = refl
free_owners (suc (suc (suc n))) = refl

-- they may stand before whatever isn't idle
pub free_tidy : (n : ℕ) (ks : List Kind) → not (idle_first ks) ≡ true → tidy ks ≡ true → tidy (map kind (free_pieces n) ++ ks) ≡ true
free_tidy zero ks i t = t
free_tidy (suc zero) ks i t = and_from _ _ (gap_okay ks i) t
  where
    gap_okay : (ks : List Kind) → not (idle_first ks) ≡ true → gap_ok ks ≡ true
    gap_okay [] i = refl
    gap_okay (Gap ∷ ks) i = absurd (false≢true i)
    gap_okay (Free ∷ ks) i = absurd (false≢true i)
    gap_okay (Used ∷ ks) i = refl
free_tidy (suc (suc zero)) ks i t = and_from _ _ i (free_tidy (suc zero) ks i t)
free_tidy (suc (suc (suc n))) ks i t = and_from _ _ i t
