use Rattle.std.proofs.Common.{◌≢◌, ◌≡◌, FitsSigned, rules, arith}
use Rattle.std.specs.Int.{w128}
use Rattle.std.proofs.lemmas.Int.{to_z-of_z}
use Rattle.std.proofs.lemmas.Bool.Decides.{nat_tests}
use Rattle.tableau_rows.proofs.MergeLaws.{Merging-begin, Merging-put, Merging-skip, Merging-end, in_row, in_pivot, entries_below}
use Rattle.tableau_rows.proofs.substitution.Substitution.entries.Goals as goal

pub loop-column-init : goal.loop-column-init
loop-column-init c =
    let s = c.args.self.now in
    rw (c.as_slice-left.ensures.value, c.as_slice-right.ensures.value, c.new-entries.ensures.items)
    (Merging-begin s.row.now s.pivot.now s.of_row s.of_pivot s.entering s.row.now.sound.sparse s.pivot.now.sound.sparse c.requires.proper.factors)

pub coefficient-requires-clause-row : goal.coefficient-requires-clause-row
coefficient-requires-clause-row c =
    let s = c.args.self.now in
    let fits : FitsSigned w128 c.split_front-in_row.result.0 = search rules in
    simp to_z-of_z (in_row s.row.now s.pivot.now s.of_row s.of_pivot s.entering _ _ _ c.loop-column.invariant c.in-Some.column c.in-Some.ensures.first _ _ _ _ c.split_front-in_row.ensures.split c.split_front-in_pivot.ensures.split)

pub coefficient-requires-clause-pivot : goal.coefficient-requires-clause-pivot
coefficient-requires-clause-pivot c =
    let s = c.args.self.now in
    let fits : FitsSigned w128 c.split_front-in_pivot.result.0 = search rules in
    simp to_z-of_z (in_pivot s.row.now s.pivot.now s.of_row s.of_pivot s.entering _ _ _ c.loop-column.invariant c.in-Some.column c.in-Some.ensures.first _ _ _ _ c.split_front-in_row.ensures.split c.split_front-in_pivot.ensures.split)

pub put-requires-clause-last : goal.put-requires-clause-last
put-requires-clause-last c =
    let s = c.args.self.now in
    entries_below s.row.now s.pivot.now s.of_row s.of_pivot s.entering _ _ _ c.loop-column.invariant c.in-Some.column c.in-Some.ensures.first _ _ _ _ c.split_front-in_row.ensures.split c.split_front-in_pivot.ensures.split

pub loop-column-preserved-in-Continue-1 : goal.loop-column-preserved-in-Continue-1
loop-column-preserved-in-Continue-1 c =
    let s = c.args.self.now in
    let stays : c.in-Some.column ≢ s.entering = grind (arith, nat_tests) in
    let row_fits : FitsSigned w128 c.split_front-in_row.result.0 = search rules in
    let pivot_fits : FitsSigned w128 c.split_front-in_pivot.result.0 = search rules in
    let coeff_fits : FitsSigned w128 c.in-Ok.coeff = search rules in
    Merging-put s.row.now s.pivot.now s.of_row s.of_pivot s.entering _ _ _ c.loop-column.invariant c.in-Some.column c.in-Some.ensures.first _ _ _ _ c.split_front-in_row.ensures.split c.split_front-in_pivot.ensures.split
    c.put.new.entries.items c.in-Ok.coeff stays c.in-Ok.ensures.own (simp to_z-of_z at c.in-Ok.ensures.value) c.in_ok-put-in-Ok.ensures.sparse c.in_ok-put-in-Ok.ensures.last (simp to_z-of_z at c.in_ok-put-in-Ok.ensures.sums)

pub loop-column-preserved : goal.loop-column-preserved
loop-column-preserved c =
    let s = c.args.self.now in
    let same : c.in-Some.column ≡ s.entering = grind (arith, nat_tests) in
    Merging-skip s.row.now s.pivot.now s.of_row s.of_pivot s.entering _ _ _ c.loop-column.invariant c.in-Some.column c.in-Some.ensures.first _ _ _ _ c.split_front-in_row.ensures.split c.split_front-in_pivot.ensures.split same

pub returns-clause-sums : goal.returns-clause-sums
returns-clause-sums c =
    let s = c.args.self.now in
    Merging-end s.row.now s.pivot.now s.of_row s.of_pivot s.entering _ _ _ c.loop-column.invariant c.in_default.ensures.first.0 c.in_default.ensures.first.1
