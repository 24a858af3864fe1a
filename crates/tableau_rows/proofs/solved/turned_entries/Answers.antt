use Rattle.std.proofs.Common.{[], ◌∷◌, ◌++◌, get_or, pos, FitsSigned, sym, ◌∙◌, rules}
use Rattle.std.specs.Int.{w128}
use Rattle.std.proofs.lemmas.Int.{to_z-of_z}
use Rattle.tableau_rows.specs.declared.entry.Entry.{Entry}
use Rattle.tableau_rows.proofs.TotalLaws.{coefficient_at}
use Rattle.tableau_rows.proofs.TurnLaws.{turned_more}
use Rattle.tableau_rows.proofs.solved.turned_entries.Goals as goal

blank : Entry
blank = record { column = 0; coeff = pos 0 }

pub returns-in-Err-clause-step : goal.returns-in-Err-clause-step
unfolding blank
returns-in-Err-clause-step c =
    let entries = c.args.entries.now in
    let i = c.loop-entry.entry-index in
    let entry = get_or entries i blank in
    let fits : FitsSigned w128 entry.coeff = search rules in
    let step = simp to_z-of_z at c.in-Err.ensures.excess in
    (entry.column, rw (coefficient_at entries c.requires.rising i blank c.loop-entry-test.true) step)

pub loop-entry-preserved : goal.loop-entry-preserved
unfolding blank
loop-entry-preserved c =
    let entries = c.args.entries.now in
    let i = c.loop-entry.entry-index in
    let fits : FitsSigned w128 (get_or entries i blank).coeff = search rules in
    c.in_ok-push.ensures.items ∙ (λ j. c.loop-entry.invariant j ++ c.oriented.ensures j ∷ []) ∙ sym (turned_more c.args.turn entries i blank c.loop-entry-test.true)
