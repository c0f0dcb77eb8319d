use Rattle.std.proofs.Common.{arith}
use Rattle.block.proofs.Cells.{first_cell_sum, first_cell_length, first_cell_used, first_cell_least, is_first_from}
use Rattle.block.proofs.convert.U32FromHead.from.Goals as goal

pub overflow_mul-result : goal.overflow_mul-result
overflow_mul-result c = omega (arith, c.args.head.live, first_cell_sum c.args.head.length c.args.head.in_use)

pub overflow_add-result : goal.overflow_add-result
overflow_add-result c = omega (arith, c.args.head.live, first_cell_sum c.args.head.length c.args.head.in_use)

pub overflow_add-result-2 : goal.overflow_add-result-2
overflow_add-result-2 c = omega (arith, c.args.head.live, first_cell_sum c.args.head.length c.args.head.in_use)

pub returns : goal.returns
returns c =
    let n = c.args.head.length in
    let u = c.args.head.in_use in
    let e = first_cell_sum n u in
    record {
      first = rw e (is_first_from _ (first_cell_least n u) c.args.head.live);
      value = e;
      length = rw e (first_cell_length n u);
      in_use = rw e (first_cell_used n u);
    }
