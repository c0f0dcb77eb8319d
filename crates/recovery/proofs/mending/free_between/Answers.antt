use Rattle.std.proofs.Common.{◌≡◌, ◌-◌, length, sym, ap, ◌∙◌, arith}
use borrow.Rule.Slice.PartMut.{put_mid}
use Rattle.block.proofs.Blocks.{size_pos}
use Rattle.requests.specs.Free.{free_cells}
use Rattle.requests.proofs.Parts.{lent_between}
use Rattle.recovery.proofs.Stretches.{half_start, half_past, none_between, half_block, half_end}
use Rattle.recovery.proofs.mending.free_between.Goals as goal
use Rattle.recovery.proofs.mending.free_between.Goals.{then-gap-place, else-gap-place}

pub loop-place-init : goal.loop-place-init
loop-place-init c = half_start c.args.shelf.now

pub loop-place-smaller : goal.loop-place-smaller
loop-place-smaller c = omega (arith, c.in-Some.ensures.some, c.block_size.ensures.value, size_pos)

-- the stretch before a marked block is free, whether it was written or there was none
stretch_freed : (c : goal.After-block_size) → c.if-gap-place.shelf ≡ put_mid c.loop-place.gap (c.in-Some.place - c.loop-place.gap) c.loop-place.shelf (free_cells (c.in-Some.place - c.loop-place.gap))
stretch_freed c =
    let s = c.loop-place.shelf in
    let g = c.loop-place.gap in
    let i = c.in-Some.place in
    let at = c.in-Some.ensures.some in
    let k = lent_between s g i at.0 (omega (arith, c.loop-place.auto.shelf)) in
    elim c.if-gap-place.branch [
      | then-gap-place w ↦ w.shelf-is ∙ ap (put_mid g (i - g) s) (w.write_free.ensures ∙ ap free_cells k)
      | else-gap-place w ↦ w.shelf-is ∙ none_between s g i at.0 w.if-gap-place.false
    ]

pub loop-place-preserved : goal.loop-place-preserved
loop-place-preserved c =
    let b = c.args.shelf.now in
    let g = c.loop-place.gap in
    let i = c.in-Some.place in
    let at = c.in-Some.ensures.some in
    let past = half_past b c.loop-place.shelf g i at.0 (omega arith) (λ p l m. sym (c.requires.places p) ∙ c.in-Some.ensures.none p l m) c.loop-place.invariant in
    half_block b c.loop-place.shelf c.if-gap-place.shelf g i c.block_size.result at.1 c.loop-place.auto.shelf (sym (c.requires.places i) ∙ at.2) past (stretch_freed c) c.block_size.ensures.value

pub returns : goal.returns
returns c =
    let b = c.args.shelf.now in
    let g = c.loop-place.gap in
    let h = c.loop-place.invariant in
    let past = half_past b c.loop-place.shelf g (length b) h.within (omega arith) (λ p l m. sym (c.requires.places p) ∙ c.in_default.ensures.none p l m) h in
    let k = lent_between c.loop-place.shelf g (length b) h.within (omega (arith, c.loop-place.auto.shelf)) in
    half_end b c.loop-place.shelf c.write_free-2.new.part g (length b) (omega arith) c.loop-place.auto.shelf (c.write_free-2.ensures ∙ ap free_cells k) past
