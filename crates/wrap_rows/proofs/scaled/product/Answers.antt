use Rattle.std.proofs.Common.{rules, ◌^◌, ◌<◌}
use Rattle.std.proofs.Math.Facts.{Fits-of_lt}
use Rattle.std.proofs.lemmas.Nat.{mul-lt}
use Rattle.wrap_rows.proofs.scaled.product.Goals as goal

pub overflow_mul-result : goal.overflow_mul-result
overflow_mul-result c =
    let a : c.from.result < 2 ^ 32 = rw c.from.ensures (search rules) in
    let b : c.from-2.result < 2 ^ 32 = rw c.from-2.ensures (search rules) in
    Fits-of_lt (mul-lt c.from.result c.from-2.result (2 ^ 32) (2 ^ 32) a b)
