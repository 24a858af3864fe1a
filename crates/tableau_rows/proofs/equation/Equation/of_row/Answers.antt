use Rattle.std.proofs.Common.{[], ◌∷◌, ◌++◌, map, negsuc, ap, ◌∙◌, arith}
use Rattle.std.proofs.lemmas.List.{take_all}
use Rattle.tableau_rows.specs.Turning.{entry_of}
use Rattle.tableau_rows.proofs.FirstRowLaws.{row_solved}
use Rattle.tableau_rows.proofs.equation.Equation.of_row.Goals as goal

pub invariant_of-result : goal.invariant_of-result
invariant_of-result c =
    let parts = c.args.parts.now in
    let all = ap (map entry_of) (take_all c.loop-part.part-index parts (omega arith)) in
    let is = c.in_ok-push-2.ensures.items ∙ ap (λ entries. entries ++ record { column = c.args.basic; coeff = negsuc 0 } ∷ []) (c.loop-part.invariant ∙ all) in
    record { sound = row_solved parts c.args.basic _ is c.requires.known c.requires.rising c.requires.nonzero }
