use Rattle.std.proofs.Common.{◌≡◌, ◌++◌, take, map}
use Rattle.ll_items.proofs.names.push_params.Given as goal

abbrev pub invariant-loop-param : goal.invariant-loop-param
invariant-loop-param l = l.list ≡ l.initial.list ++ map (λ param. param.name) (take l.param-index l.params)
