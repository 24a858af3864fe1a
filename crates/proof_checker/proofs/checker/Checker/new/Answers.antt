use Rattle.std.proofs.Common.{refl, subst}
use Rattle.leaf_check.specs.Sums.{IsClear}
use Rattle.proof_checker.specs.Place.{AtHeader}
use Rattle.proof_checker.proofs.checker.Checker.new.Goals as goal

pub returns : goal.returns
returns c = record {
  system_is = refl;
  cost_is = refl;
  sound = record { formed = c.vars.ensures.well_formed; exists = c.requires };
  clear = subst (λ n. IsClear n c.in_ok-sums.sums) c.vars.ensures.count c.in_ok-sums.ensures;
  found = (AtHeader, refl, refl, refl);
}
