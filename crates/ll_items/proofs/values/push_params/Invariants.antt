use Rattle.std.proofs.Common.{◌≡◌, ◌++◌, take, map}
use Rattle.ll_items.proofs.values.push_params.Given as goal

abbrev pub invariant-loop-param : goal.invariant-loop-param
invariant-loop-param l = l.list ≡ l.initial.list ++ map (λ param. (param.name, param.width)) (take l.param-index l.params)
