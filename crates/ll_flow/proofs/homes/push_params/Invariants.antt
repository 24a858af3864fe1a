use Rattle.std.proofs.Common.{◌≡◌, ◌++◌, map, drop}
use Rattle.ll_flow.specs.declared.homes.Home.TheVariants as home
use Rattle.ll_flow.proofs.homes.push_params.Given as goal

abbrev pub invariant-loop-param : goal.invariant-loop-param
invariant-loop-param l = l.homes ++ map (λ param. home.Param) (drop l._param-index l.params) ≡ l.initial.homes ++ map (λ param. home.Param) l.params
