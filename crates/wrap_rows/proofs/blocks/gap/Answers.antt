use Rattle.std.proofs.Common.{◌^◌, ◌≤◌, arith}
use Rattle.std.proofs.Math.Nat.{pow-le-pow_right}
use Rattle.wrap_rows.proofs.blocks.gap.Goals as goal

pub overflow_sub-to : goal.overflow_sub-to
overflow_sub-to c =
    let order : 2 ^ c.args.from ≤ 2 ^ c.args.to = pow-le-pow_right {n = 2} (omega arith) {i = c.args.from} {j = c.args.to} c.requires.order in
    let small : 2 ^ c.args.to ≤ 2 ^ 62 = pow-le-pow_right {n = 2} (omega arith) {i = c.args.to} {j = 62} (omega (arith, c.requires.width)) in
    omega (arith, order, small)
