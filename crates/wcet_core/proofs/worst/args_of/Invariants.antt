use Rattle.std.proofs.Common.{◌≡◌, take}
use Rattle.std.specs.Prelude.{map}
use Rattle.wcet_core.specs.Worst.{numbers_of}
use Rattle.wcet_core.proofs.worst.args_of.Given as goal

-- the arguments of the parameters so far
abbrev pub invariant-loop-at : goal.invariant-loop-at
invariant-loop-at l = record {
  numbers : numbers_of l.args ≡ take l.at l.numbers;
  widths : map (λ arg. arg.width) l.args ≡ map (λ param. param.width) (take l.at l.params);
}
