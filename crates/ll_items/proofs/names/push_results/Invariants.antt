use Rattle.std.proofs.Common.{◌≡◌, ◌++◌, take, map}
use Rattle.std.specs.List.{flat_map}
use Rattle.ll_rules.specs.Items.{named, result_width}
use Rattle.ll_items.proofs.names.push_results.Given as goal

abbrev pub invariant-loop-instr : goal.invariant-loop-instr
invariant-loop-instr l = l.list ≡ l.initial.list ++ map (λ value. value.0) (flat_map (λ instr. named instr.name (result_width instr.op)) (take l.instr-index l.body))
