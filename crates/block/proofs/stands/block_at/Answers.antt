use Rattle.std.proofs.Common.{get_or-drop, length-drop, arith}
use Rattle.std.proofs.lemmas.Bool.Decides.{nat_tests}
use Rattle.std.proofs.lemmas.List.{get_or_past}
use Rattle.block.specs.Block.{block, size_for}
use Rattle.block.proofs.Places.{head_at, block_from}
use Rattle.block.proofs.stands.block_at.Goals as goal

pub returns-in_default : goal.returns-in_default
unfolding block size_for
returns-in_default c = grind (arith, nat_tests, get_or_past, get_or-drop, length-drop)

pub returns-in_default-2 : goal.returns-in_default-2
unfolding block size_for
returns-in_default-2 c = grind (arith, nat_tests, get_or_past, get_or-drop, length-drop)

pub returns-in_default-try_from : goal.returns-in_default-try_from
unfolding block size_for
returns-in_default-try_from c =
    let l = c.in-Some-default-len3-up.ensures.cases in
    let h = head_at c.args.shelf.now c.args.i c.in-Some-default-len3-up.field-0-1.now l.0 l.2 in
    let none = c.in_default-try_from.ensures in
    grind (arith, nat_tests)

pub returns-in_default-split_at_checked : goal.returns-in_default-split_at_checked
unfolding block size_for
returns-in_default-split_at_checked c =
    let l = c.in-Some-default-len3-up.ensures.cases in
    let h = head_at c.args.shelf.now c.args.i c.in-Some-default-len3-up.field-0-1.now l.0 l.2 in
    let t = c.in-Ok.ensures in
    let none = c.in_default-split_at_checked.ensures.cases in
    grind (arith, nat_tests)

pub returns-then-owner-lt-LIMIT : goal.returns-then-owner-lt-LIMIT
returns-then-owner-lt-LIMIT c =
    let l = c.in-Some-default-len3-up.ensures.cases in
    let h = head_at c.args.shelf.now c.args.i c.in-Some-default-len3-up.field-0-1.now l.0 l.2 in
    let t = c.in-Ok.ensures in
    let r = c.in-Some.ensures.cases in
    let b = block_from _ _ _ c.in-Some.row.now _ h t.first t.length r.1 r.0 c.in-Some-default-len3-up.len_at_least in
    let s = c.has_sum.ensures in
    grind (arith, nat_tests)

pub returns-else-owner-lt-LIMIT : goal.returns-else-owner-lt-LIMIT
returns-else-owner-lt-LIMIT c =
    let l = c.in-Some-default-len3-up.ensures.cases in
    let h = head_at c.args.shelf.now c.args.i c.in-Some-default-len3-up.field-0-1.now l.0 l.2 in
    let t = c.in-Ok.ensures in
    let r = c.in-Some.ensures.cases in
    let b = block_from _ _ _ c.in-Some.row.now _ h t.first t.length r.1 r.0 c.in-Some-default-len3-up.len_at_least in
    grind (arith, nat_tests)
