use Rattle.std.proofs.Common.{sym, ◌∙◌}
use Rattle.text.proofs.Counts.{one_more, too_few, no_number, row_full}
use Rattle.text.proofs.numbers.numbers.Goals as goal

pub loop-place-preserved : goal.loop-place-preserved
loop-place-preserved g c =
    one_more c.loop-place.invariant c.in_ok-next.ensures.steps.first _ (sym c.number.ensures ∙ c.in_ok-place.was) c.loop-place-test.true

pub returns-in_err-next : goal.returns-in_err-next
returns-in_err-next g c = c.from_residual.ensures ∙ sym (too_few c.loop-place.invariant c.in_err-next.ensures.steps.0 c.loop-place-test.true)

pub returns-in_err-place : goal.returns-in_err-place
returns-in_err-place g c =
    c.from_residual-in_err-place.ensures ∙ sym (no_number c.loop-place.invariant c.in_ok-next.ensures.steps.first (sym c.number.ensures ∙ c.in_err-place.was))

pub returns : goal.returns
returns g c =
    c.then_some.ensures ∙ row_full c.loop-place.words c.next-2.new.self c.loop-place.invariant c.loop-place-test.false _ c.next-2.ensures.steps _ c.is_none.ensures
