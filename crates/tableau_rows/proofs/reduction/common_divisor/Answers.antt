use Rattle.std.proofs.Common.{get_or, pos, FitsSigned, sym, rules, arith}
use Rattle.std.specs.Int.{w128}
use Rattle.std.proofs.lemmas.Int.{to_z-of_z}
use Rattle.std.proofs.lemmas.List.{take_all}
use Rattle.std.proofs.lemmas.List.Elements.{All-same}
use Rattle.tableau_rows.specs.declared.entry.Entry.{Entry}
use Rattle.tableau_rows.proofs.DivisionLaws.{Divides, divides_more, greatest_more}
use Rattle.tableau_rows.proofs.reduction.common_divisor.Goals as goal

blank : Entry
blank = record { column = 0; coeff = pos 0 }

pub loop-entry-preserved : goal.loop-entry-preserved
unfolding blank
loop-entry-preserved c =
    let entries = c.args.entries.now in
    let i = c.loop-entry.entry-index in
    let fits : FitsSigned w128 (get_or entries i blank).coeff = search rules in
    let size = simp to_z-of_z at c.unsigned_abs.ensures.value in
    let gcd = rw size at c.gcd-divisor.ensures.greatest in
    record {
      divides = divides_more entries i blank _ _ (omega arith) c.loop-entry.invariant.divides gcd;
      greatest = greatest_more entries i blank _ _ (omega arith) c.loop-entry.invariant.greatest gcd;
    }

pub returns-clause-divides : goal.returns-clause-divides
returns-clause-divides c =
    All-same (Divides c.loop-entry.divisor) c.args.entries.now _ (sym (take_all c.loop-entry.entry-index c.args.entries.now (omega arith))) c.loop-entry.invariant.divides

pub returns-clause-greatest : goal.returns-clause-greatest
returns-clause-greatest c = λ d all.
    c.loop-entry.invariant.greatest d (All-same (Divides d) _ c.args.entries.now (take_all c.loop-entry.entry-index c.args.entries.now (omega arith)) all)
