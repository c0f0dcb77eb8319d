-- The refusals have the numbers 1 to 6.
use Rattle.std.proofs.Common.{◌≡◌, ℕ, zero, suc, ◌<◌, ◌≤◌, refl, arith}
use Rattle.requests.specs.Answers.{number_of, refused_by}

pub numbered : (n : ℕ) → 0 < n → n ≤ 6 → number_of (refused_by n) ≡ n
numbered zero l m = absurd (omega arith)
numbered (suc zero) l m = refl
numbered (suc (suc zero)) l m = refl
numbered (suc (suc (suc zero))) l m = refl
numbered (suc (suc (suc (suc zero)))) l m = refl
numbered (suc (suc (suc (suc (suc zero))))) l m = refl
numbered (suc (suc (suc (suc (suc (suc n)))))) l m = omega arith
