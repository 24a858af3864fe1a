use Rattle.std.proofs.Common.{◌≡◌, ◌+◌, ◌*◌, ◌^◌, ◌<◌, ap, ◌∙◌, arith}
use Rattle.std.proofs.Math.Nat.{pow-suc}
use Rattle.std.proofs.lemmas.Int.Digits.{length-digits_of-le}
use Rattle.solver_rows.proofs.calm.digits.Goals as goal

pub returns-clause-count : goal.returns-clause-count
returns-clause-count c =
    let next : 2 ^ (c.ilog2.result + 1) ≡ 2 ^ c.ilog2.result * 2 = ap (λ k. 2 ^ k) (omega arith) ∙ pow-suc 2 c.ilog2.result in
    length-digits_of-le 2 (c.ilog2.result + 1) c.args.number (omega arith) (omega (arith, next, c.ilog2.ensures.next_power_gt))
