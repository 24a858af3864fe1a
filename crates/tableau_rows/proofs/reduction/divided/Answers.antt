use Rattle.std.proofs.Common.{◌∙◌, FitsSigned, sym, subst, rules, arith}
use Rattle.std.specs.Int.{w128}
use Rattle.std.proofs.lemmas.Int.{to_z-of_z}
use Rattle.std.proofs.lemmas.List.{length-set}
use Rattle.tableau_rows.proofs.DivisionLaws.{Divides, divided_more, divided_kept}
use Rattle.tableau_rows.proofs.reduction.divided.Goals as goal

pub quotient-requires-clause-divides : goal.quotient-requires-clause-divides
quotient-requires-clause-divides c =
    let x = c.index.result.now in
    let fits : FitsSigned w128 x.coeff = search rules in
    let was = c.index.ensures ∙ c.loop-i.invariant.rest c.loop-i.i x (omega arith) in
    simp to_z-of_z (subst (Divides c.args.divisor) (sym was) (c.requires.divides c.loop-i.i x (omega (arith, c.loop-i.invariant.as_many))))

pub loop-i-preserved : goal.loop-i-preserved
loop-i-preserved c =
    let x = c.index.result.now in
    let coeff_fits : FitsSigned w128 x.coeff = search rules in
    let fits : FitsSigned w128 c.quotient.result = search rules in
    let now = c.loop-i.entries.items in
    record {
      as_many = length-set now c.loop-i.i _ ∙ c.loop-i.invariant.as_many;
      done = simp to_z-of_z (divided_more c.args.divisor c.args.entries.items now c.loop-i.i x c.quotient.result c.loop-i.invariant.as_many (omega (arith, c.loop-i.invariant.as_many)) c.index.ensures c.loop-i.invariant.done c.loop-i.invariant.rest (simp to_z-of_z at c.quotient.ensures));
      rest = divided_kept c.args.entries.items now c.loop-i.i _ c.loop-i.invariant.rest;
    }
