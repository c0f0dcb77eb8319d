use Rattle.std.proofs.Common.{◌≡◌, ◌≤◌, length, sym, refl, ◌∙◌, arith}
use Rattle.std.proofs.lemmas.Bool.{leb-true}
use Rattle.recovery.specs.Mend.{mend_refusal}
use Rattle.recovery.proofs.Mended.{mended_is, not_refused}
use Rattle.recovery.proofs.Canonical.{kept_by_mending}
use Rattle.recovery.proofs.mending.mend.Goals as goal

-- a shelf of which all blocks were found is short
short : (c : goal.After-slice_known-2-1) → length c.args.shelf.now ≤ 100000
short c = leb-true _ _ (sym c.find_all.ensures.test ∙ sym c.in_ok-ok_or.ensures.variant)

pub returns-clause-says : goal.returns-clause-says
returns-clause-says c =
    let b = c.args.shelf.now in
    let e : mend_refusal b ≡ 0 = not_refused b (omega arith) (short c) in
    rw (e, c.free_between.ensures) (refl, mended_is b (short c))

pub returns-clause-kept : goal.returns-clause-kept
returns-clause-kept c = λ _. rw c.free_between.ensures (kept_by_mending c.args.shelf.now (short c))
