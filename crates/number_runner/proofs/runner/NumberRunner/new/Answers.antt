use Rattle.std.proofs.Common.{◌≡◌, ap, arith}
use Rattle.ll_rules.specs.Limits.{count_values}
use Rattle.ir_runner.proofs.StartLaws.{few_values}
use Rattle.number_runner.proofs.runner.NumberRunner.new.Goals as goal

pub invariant_of-result : goal.invariant_of-result
invariant_of-result g c =
    let func = c.args.sound.now.func in
    let few = few_values func in
    let count : count_values c.func.result.now ≡ count_values func = ap count_values c.func.ensures.func in
    record {
      rules = c.func.ensures.rules;
      numbers = omega (arith, few, count, c.count_values.ensures, c.in_ok-numbers.ensures.len);
    }
