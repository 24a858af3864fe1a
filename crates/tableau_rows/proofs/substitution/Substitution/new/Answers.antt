use Rattle.std.proofs.Common.{FitsSigned, rules}
use Rattle.std.specs.Int.{w128}
use Rattle.std.proofs.lemmas.Int.{to_z-of_z}
use Rattle.tableau_rows.proofs.substitution.Substitution.new.Goals as goal

pub quotient-requires-clause-divides : goal.quotient-requires-clause-divides
quotient-requires-clause-divides c =
    let fits : FitsSigned w128 c.coefficient-in_pivot.result = search rules in
    let size = simp to_z-of_z at c.unsigned_abs.ensures.value in
    let gcd = rw size at c.gcd-divisor.ensures.greatest in
    simp to_z-of_z gcd.0

pub quotient-requires-2-clause-divides : goal.quotient-requires-2-clause-divides
quotient-requires-2-clause-divides c =
    let fits : FitsSigned w128 c.coefficient-in_row.result = search rules in
    let size = simp to_z-of_z at c.unsigned_abs-2.ensures.value in
    let gcd = rw size at c.gcd-divisor.ensures.greatest in
    simp to_z-of_z gcd.1

pub returns-clause-proper : goal.returns-clause-proper
returns-clause-proper c =
    let pivot_fits : FitsSigned w128 c.coefficient-in_pivot.result = search rules in
    let row_fits : FitsSigned w128 c.coefficient-in_row.result = search rules in
    let p_fits : FitsSigned w128 c.quotient.result = search rules in
    let q_fits : FitsSigned w128 c.quotient-2.result = search rules in
    let in_pivot = simp to_z-of_z at c.unsigned_abs.ensures.value in
    let in_row = simp to_z-of_z at c.unsigned_abs-2.ensures.value in
    let gcd = rw (in_pivot, in_row, c.coefficient-in_pivot.ensures, c.coefficient-in_row.ensures) at c.gcd-divisor.ensures.greatest in
    record {
      pivot_takes = c.requires.pivot_takes;
      row_takes = c.requires.row_takes;
      apart = c.requires.apart;
      pivot_without = c.requires.pivot_without;
      row_without = c.requires.row_without;
      factors = record {
        divisor = c.gcd-divisor.result;
        greatest = gcd;
        first = simp to_z-of_z (rw (← c.coefficient-in_pivot.ensures) (simp to_z-of_z at c.quotient.ensures));
        second = simp to_z-of_z (rw (← c.coefficient-in_row.ensures) (simp to_z-of_z at c.quotient-2.ensures));
      };
    }
