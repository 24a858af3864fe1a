use Rattle.std.proofs.Common.{◌≡◌, ◌≢◌, get_or, pos, FitsSigned, rules, arith}
use Rattle.std.specs.Int.{w128}
use Rattle.std.proofs.lemmas.Int.{to_z-of_z}
use Rattle.std.proofs.lemmas.Bool.Decides.{nat_tests}
use Rattle.tableau_rows.specs.declared.entry.Entry.{Entry}
use Rattle.tableau_rows.proofs.FrontLaws.{split_none, split_first}
use Rattle.tableau_rows.proofs.merge.split_front.Goals as goal

blank : Entry
blank = record { column = 0; coeff = pos 0 }

pub returns-then-first-column-clause-split : goal.returns-then-first-column-clause-split
unfolding blank
returns-then-first-column-clause-split c =
    let other : (get_or c.args.entries.now 0 blank).column ≢ c.args.column = grind (arith, nat_tests) in
    split_none c.args.entries.now blank c.args.column c.requires.sparse c.requires.least other

pub returns-clause-split : goal.returns-clause-split
unfolding blank
returns-clause-split c =
    let entries = c.args.entries.now in
    let coeff_fits : FitsSigned w128 (get_or entries 0 blank).coeff = search rules in
    let same : (get_or entries 0 blank).column ≡ c.args.column = grind (arith, nat_tests) in
    simp to_z-of_z (split_first entries blank c.args.column (omega arith) c.requires.sparse same)
