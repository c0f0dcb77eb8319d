-- The test for small cells by chunks.
use Rattle.std.proofs.Common.{◌≡◌, ◌*◌, ◌&&◌, List, ℕ, zero, suc, take, drop, refl, sym, ap, ◌∙◌, suc-mul, arith}
use Rattle.std.proofs.Math.Bool.{and_assoc}
use Rattle.std.proofs.lemmas.List.{drop-drop, take-append-drop}
use Rattle.std.specs.List.{list_all}
use Rattle.std.specs.Simd.{first_chunks}
use Rattle.block.specs.Block.{all_small}
use Rattle.block.proofs.Rows.{small_append}

-- k chunks of n cells, and what is behind them
pub chunks_small : (n k : ℕ) (xs : List ℕ) → (list_all all_small (first_chunks n k xs) && all_small (drop (k * n) xs)) ≡ all_small xs
chunks_small n zero xs = let e : 0 * n ≡ 0 = omega arith in rw e refl
chunks_small n (suc k) xs =
    let chunk = all_small (take n xs) in
    let chunks = list_all all_small (first_chunks n k (drop n xs)) in
    let behind : drop (k * n) (drop n xs) ≡ drop (suc k * n) xs = drop-drop (k * n) n xs ∙ ap (λ j. drop j xs) (omega (arith, suc-mul k n)) in
    let all = ap (λ ys. chunks && all_small ys) (sym behind) ∙ chunks_small n k (drop n xs) in
    and_assoc chunk chunks (all_small (drop (suc k * n) xs)) ∙ ap (λ b. chunk && b) all ∙ sym (small_append (take n xs) (drop n xs)) ∙ ap all_small (take-append-drop n xs)
