use Rattle.std.proofs.Common.{◌%◌, mul_comm, arith}
use Rattle.block.proofs.Rows.{times_mod, product_bound}
use Rattle.block.proofs.sums.product.Goals as goal

pub overflow_mul-result : goal.overflow_mul-result
overflow_mul-result c = let b = product_bound c.args.weight c.args.plain 33000000 274877906944 (omega arith) (omega (arith, c.requires.plain)) in omega arith

pub returns-else-weight-lt-SMALL_WEIGHT : goal.returns-else-weight-lt-SMALL_WEIGHT
returns-else-weight-lt-SMALL_WEIGHT c =
    let w = c.args.weight in
    let s = c.args.plain in
    let b = product_bound w (s % 2147483647) 2147483646 2147483646 (omega (arith, c.requires.weight)) (omega arith) in
    let t = times_mod s w in
    record { value = omega (arith, mul_comm w s, mul_comm w (s % 2147483647)); bound = omega arith }
