use Rattle.std.proofs.Common.{◌≡◌, ◌&&◌, length, drop, ◌*◌, ◌/◌, sym, ap, ◌∙◌, rules, tests}
use Rattle.std.proofs.lemmas.Iterator.{YieldsList-from_slice}
use Rattle.std.proofs.lemmas.Iterator.Search.{all_from_yields_List}
use Rattle.std.specs.Simd.{first_chunks}
use Rattle.block.specs.Block.{all_small}
use Rattle.block.proofs.Chunks.{chunks_small}
use Rattle.block.proofs.sums.is_small_by_chunks.Goals as goal

pub returns-then-all : goal.returns-then-all
returns-then-all c =
    let row = c.args.row.now in
    let k = length row / 64 in
    let behind = all_small (drop (k * 64) row) in
    let all = all_from_yields_List all_small _ _ c.all.result c.all.ensures.ran (YieldsList-from_slice (first_chunks 64 k row) cc) (λ x b q k. search (rules, tests)) in
    let last : c.are_small.result ≡ behind = search rules in
    last ∙ ap (λ b. b && behind) (sym c.if-all.true ∙ all) ∙ chunks_small 64 k row

pub returns-else-all : goal.returns-else-all
returns-else-all c =
    let row = c.args.row.now in
    let k = length row / 64 in
    let behind = all_small (drop (k * 64) row) in
    let all = all_from_yields_List all_small _ _ c.all.result c.all.ensures.ran (YieldsList-from_slice (first_chunks 64 k row) cc) (λ x b q k. search (rules, tests)) in
    c.if-all.false ∙ ap (λ b. b && behind) (sym c.if-all.false ∙ all) ∙ chunks_small 64 k row
