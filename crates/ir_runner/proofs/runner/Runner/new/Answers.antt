use Rattle.std.proofs.Common.{◌≡◌, length, ◌∙◌, ap, arith}
use Rattle.std.proofs.lemmas.List.{length-map}
use Rattle.ll_rules.specs.Limits.{count_values}
use Rattle.ir_runner.specs.Code.{block_code}
use Rattle.ir_runner.specs.declared.code.BlockCode.{BlockCode}
use Rattle.ir_runner.proofs.StartLaws.{few_values}
use Rattle.ir_runner.proofs.runner.Runner.new.Goals as goal

pub invariant_of-result : goal.invariant_of-result
invariant_of-result c =
    let func = c.args.sound.now.func in
    let few = few_values func in
    let count : count_values c.func.result.now ≡ count_values func = ap count_values c.func.ensures.func in
    let blocks = ap (length {A = BlockCode}) c.in_ok-code.ensures ∙ length-map func.blocks (block_code func) in
    record {
      rules = c.func.ensures.rules;
      code = c.in_ok-code.ensures;
      slots = omega (arith, few, count, c.count_values.ensures, c.in_ok-slots.ensures.len);
      path = omega (arith, blocks, c.len.ensures, c.in_ok-path.ensures.exact);
    }
