use Rattle.std.proofs.Common.{◌≡◌, ◌++◌, take, map}
use Rattle.ll_items.proofs.values.push_phis.Given as goal

abbrev pub invariant-loop-phi : goal.invariant-loop-phi
invariant-loop-phi l = l.list ≡ l.initial.list ++ map (λ phi. (phi.name, phi.width)) (take l.phi-index l.phis)
