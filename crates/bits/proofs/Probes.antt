-- The bits of an owner in a filter, told by number.
use Rattle.std.proofs.Common.{◌≡◌, ℕ, ◌<◌, true, List, Decides, zero-add}
use Rattle.std.specs.List.{range_with_len}
use Rattle.std.proofs.lemmas.List.FromFn.{get_or-range_with_len}
use Rattle.std.proofs.lemmas.List.Sums.{AllPass-from_list_all, list_all-from_AllPass}
use Rattle.bits.specs.Marks.{marked}
use Rattle.bits.specs.Filter.{slot, may_have}

-- an owner may have been added just where each of the four bits is set
pub may_have_decides : (ws : List ℕ) (w : ℕ) → Decides (may_have ws w) ((k : ℕ) → k < 4 → marked ws (slot w k) ≡ true)
unfolding may_have
may_have_decides ws w =
    let set = λ (k : ℕ). marked ws (slot w k) in
    let all = range_with_len 0 4 in (
      λ e k l. rw (get_or-range_with_len 0 4 k 0 l, zero-add) at (AllPass-from_list_all set all e k 0 l),
      λ h. list_all-from_AllPass set all (λ k d l. rw (get_or-range_with_len 0 4 k d l, zero-add) (h k l)),
    )
