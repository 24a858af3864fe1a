use Rattle.std.proofs.Common.{◌≡◌, ◌∷◌, map, take}
use Rattle.path_encoding.specs.Ends.{is_off, is_on}
use Rattle.path_encoding.proofs.switch.default_lits.Given as goal

abbrev pub invariant-loop-var : goal.invariant-loop-var
invariant-loop-var l = l.lits.items ≡ is_off l.block ∷ map is_on (take l.var-index l.vars)
