use Rattle.std.proofs.Common.{◌+◌, ◌^◌, ◌≤◌, arith}
use Rattle.std.proofs.Math.Nat.{pow-le-pow_right}
use Rattle.wrap_rows.proofs.shift_right.ShiftRight.raised.Goals as goal

pub overflow_sub-result : goal.overflow_sub-result
overflow_sub-result c =
    let order : 2 ^ c.args.self.now.width ≤ 2 ^ (c.args.self.now.amount + c.args.self.now.width) =
    pow-le-pow_right {n = 2} (omega arith) {i = c.args.self.now.width} {j = c.args.self.now.amount + c.args.self.now.width} (omega arith) in
    omega (arith, order, c.high_power.ensures)
